use Rattle.std.proofs.Common.{arith}
use Rattle.cam_shapes.proofs.cap.in_cap.Goals as goal

pub returns-else-eq : goal.returns-else-eq
returns-else-eq c = grind (arith)
