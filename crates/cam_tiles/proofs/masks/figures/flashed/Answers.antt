use Rattle.std.proofs.Common.{arith}
use Rattle.cam_tiles.proofs.Flashes.{origin_board, outside_hole, sized, sound_hole}
use Rattle.cam_tiles.proofs.masks.figures.flashed.Goals as goal

pub returns-in-Obround : goal.returns-in-Obround
returns-in-Obround c = grind (arith, origin_board, sized, sound_hole, outside_hole)

pub returns-in-Rect : goal.returns-in-Rect
returns-in-Rect c = grind (arith)

pub returns-in-Circle : goal.returns-in-Circle
returns-in-Circle c = grind (arith)
