use Rattle.std.proofs.Common.{arith}
use Rattle.cam_macros.proofs.Marks.{operators}
use Rattle.cam_macros.proofs.parsing.scanner.Scanner.operator.Goals as goal

pub returns-clause-ok : goal.returns-clause-ok
returns-clause-ok c = grind (arith, operators)

pub returns-in_err-wanted-clause-fault : goal.returns-in_err-wanted-clause-fault
returns-in_err-wanted-clause-fault c = grind (arith, operators)
