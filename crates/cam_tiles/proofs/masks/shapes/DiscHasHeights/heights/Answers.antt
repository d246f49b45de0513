use Rattle.cam_tiles.proofs.ShapeHeights.{in_disc}
use Rattle.cam_tiles.proofs.masks.shapes.DiscHasHeights.heights.Goals as goal

pub returns : goal.returns
returns c = in_disc c.args.self.now c.about.result c.about.ensures
