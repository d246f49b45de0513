use Rattle.std.proofs.Common.{arith}
use Rattle.std.proofs.lemmas.Grind.{common_steps}
use Rattle.cam_undo.proofs.history.History.new.Goals as goal

pub returns-clause-accepted : goal.returns-clause-accepted
returns-clause-accepted c = grind (arith, common_steps)

pub returns-in_err-with_capacity-2-clause-refused : goal.returns-in_err-with_capacity-2-clause-refused
returns-in_err-with_capacity-2-clause-refused c = grind (arith)

pub returns-then-depth-lt1-clause-refused : goal.returns-then-depth-lt1-clause-refused
returns-then-depth-lt1-clause-refused c = grind (arith)

pub returns-clause-refused : goal.returns-clause-refused
returns-clause-refused c = assumption arith

pub returns-clause-made : goal.returns-clause-made
returns-clause-made c = grind (arith)

pub returns-in_err-with_capacity-clause-refused : goal.returns-in_err-with_capacity-clause-refused
returns-in_err-with_capacity-clause-refused c = grind (arith, common_steps)
