use Rattle.std.proofs.Common.{arith}
use Rattle.cam_tiles.proofs.index.contour_parts.parts_of.Goals as goal

pub returns : goal.returns
returns c = grind (arith)
