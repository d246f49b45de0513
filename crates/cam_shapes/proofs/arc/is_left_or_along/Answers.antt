use Rattle.std.proofs.Common.{arith}
use Rattle.cam_shapes.proofs.arc.is_left_or_along.Goals as goal

pub returns : goal.returns
returns c = grind (arith)
