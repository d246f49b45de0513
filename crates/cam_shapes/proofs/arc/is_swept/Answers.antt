use Rattle.std.proofs.Common.{arith}
use Rattle.cam_shapes.proofs.arc.is_swept.Goals as goal

pub returns-else-ccw : goal.returns-else-ccw
returns-else-ccw c = grind (arith)

pub returns-then-ccw : goal.returns-then-ccw
returns-then-ccw c = grind (arith)
