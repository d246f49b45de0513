use Rattle.cam_tiles.proofs.ShapeHeights.{in_swept}
use Rattle.cam_tiles.proofs.masks.shapes.SweptHasHeights.heights.Goals as goal

pub returns : goal.returns
returns c = in_swept c.args.self.now c.along.result c.along.ensures
