use Rattle.cam_shapes.proofs.SweptLaws.{box}
use Rattle.cam_shapes.proofs.laws.swept_is_in_its_box.Goals as goal

pub returns : goal.returns
returns c = box
