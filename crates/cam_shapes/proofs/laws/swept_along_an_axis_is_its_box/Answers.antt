use Rattle.cam_shapes.proofs.SweptLaws.{axis}
use Rattle.cam_shapes.proofs.laws.swept_along_an_axis_is_its_box.Goals as goal

pub returns : goal.returns
returns c = axis
