use Rattle.cam_objects.proofs.Extents.{extent_none}
use Rattle.cam_objects.proofs.boxes.extent.Extent.none.Goals as goal

pub returns : goal.returns
returns c = extent_none c.args.entries.now c.soundness.ensures
