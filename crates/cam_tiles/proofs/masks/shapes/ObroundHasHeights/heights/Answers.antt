use Rattle.cam_tiles.proofs.ShapeHeights.{in_obround}
use Rattle.cam_tiles.proofs.masks.shapes.ObroundHasHeights.heights.Goals as goal

pub returns : goal.returns
returns c = in_obround c.args.self.now c.about.result c.about.ensures
