use Rattle.cam_tiles.proofs.ShapeHeights.{in_bar}
use Rattle.cam_tiles.proofs.masks.shapes.BarHasHeights.heights.Goals as goal

pub returns : goal.returns
returns c = in_bar c.args.self.now c.along.result c.along.ensures
