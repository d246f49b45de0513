use Rattle.cam_tiles.proofs.ShapeHeights.{in_hole}
use Rattle.cam_tiles.proofs.masks.shapes.HoleHasHeights.heights.Goals as goal

pub returns : goal.returns
returns c = in_hole c.args.self.now.0 c.about.result c.about.ensures
