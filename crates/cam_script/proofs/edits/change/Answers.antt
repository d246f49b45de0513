use Rattle.std.proofs.Common.{arith}
use Rattle.cam_script.proofs.edits.change.Goals as goal

pub returns-then-is-2 : goal.returns-then-is-2
returns-then-is-2 c = grind (arith)

pub returns-then-is : goal.returns-then-is
returns-then-is c = grind (arith)

pub returns-else-is-3 : goal.returns-else-is-3
returns-else-is-3 c = grind (arith)

pub returns-then-is-3 : goal.returns-then-is-3
returns-then-is-3 c = grind (arith)
