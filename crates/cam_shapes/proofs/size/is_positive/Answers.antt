use Rattle.std.proofs.Common.{arith}
use Rattle.cam_shapes.proofs.size.is_positive.Goals as goal

pub returns : goal.returns
returns c = grind (arith)
