use Rattle.std.proofs.Common.{arith}
use Rattle.cam_tiles.proofs.masks.macros.join_shape.Goals as goal

pub returns : goal.returns
returns c = grind (arith)
