use Rattle.std.proofs.Common.{arith}
use Rattle.cam_shapes.proofs.swept.in_swept.Goals as goal

pub returns-then-is_boxed : goal.returns-then-is_boxed
returns-then-is_boxed c = grind (arith)

pub returns-else-is_boxed : goal.returns-else-is_boxed
returns-else-is_boxed c = grind (arith)
