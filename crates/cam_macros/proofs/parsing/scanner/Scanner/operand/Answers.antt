use Rattle.std.proofs.Common.{arith, length-drop, length-take}
use Rattle.cam_macros.proofs.Marks.{nothing_at, dollar_at, prefix_of, operands}
use Rattle.cam_macros.proofs.parsing.scanner.Scanner.operand.Goals as goal

pub returns-in_default-clause-fault : goal.returns-in_default-clause-fault
returns-in_default-clause-fault c = nothing_at c.args.self.now c.args.text.now c.in_default.len_below

pub returns-in-Dollar-clause-ok : goal.returns-in-Dollar-clause-ok
returns-in-Dollar-clause-ok c = grind (arith, dollar_at)

pub returns-in-Dollar-clause-fault : goal.returns-in-Dollar-clause-fault
returns-in-Dollar-clause-fault c = grind (arith, dollar_at)

pub returns-in-Ok : goal.returns-in-Ok
returns-in-Ok c = grind (arith, prefix_of, length-take, length-drop)

pub returns-in-Numeral-clause-fault : goal.returns-in-Numeral-clause-fault
returns-in-Numeral-clause-fault c = grind (arith, operands)

pub returns-in-Numeral-clause-ok : goal.returns-in-Numeral-clause-ok
returns-in-Numeral-clause-ok c = grind (arith, operands)

pub returns-in-Dollar-clause-shorter : goal.returns-in-Dollar-clause-shorter
returns-in-Dollar-clause-shorter c = grind (arith, operands)

pub returns-in-Err : goal.returns-in-Err
returns-in-Err c = grind (arith, operands)

pub returns-in-Numeral-clause-shorter : goal.returns-in-Numeral-clause-shorter
returns-in-Numeral-clause-shorter c = grind (arith)
