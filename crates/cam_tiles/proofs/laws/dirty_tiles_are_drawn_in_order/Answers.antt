use Rattle.std.proofs.Common.{arith}
use Rattle.cam_tiles.proofs.DrawnTiles.{redraw_law}
use Rattle.cam_tiles.proofs.laws.dirty_tiles_are_drawn_in_order.Goals as goal

pub returns : goal.returns
returns c = grind (arith, redraw_law)
