use Rattle.cam_tiles.proofs.ShapeHeights.{in_rectangle}
use Rattle.cam_tiles.proofs.masks.shapes.RectangleHasHeights.heights.Goals as goal

pub returns : goal.returns
returns c = in_rectangle c.args.self.now c.about.result c.about.ensures
