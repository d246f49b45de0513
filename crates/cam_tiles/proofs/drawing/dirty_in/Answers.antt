use Rattle.std.proofs.Common.{arith}
use Rattle.cam_tiles.proofs.drawing.dirty_in.Goals as goal

pub returns : goal.returns
returns c = grind (arith)
