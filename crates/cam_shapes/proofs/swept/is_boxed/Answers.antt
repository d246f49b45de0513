use Rattle.std.proofs.Common.{arith}
use Rattle.cam_shapes.proofs.swept.is_boxed.Goals as goal

pub returns-else-is_ordered : goal.returns-else-is_ordered
returns-else-is_ordered c = grind (arith)

pub returns-then-is_ordered : goal.returns-then-is_ordered
returns-then-is_ordered c = grind (arith)
