use Rattle.cam_shapes.proofs.Boxes.{contour_box}
use Rattle.cam_shapes.proofs.laws.contour_is_in_its_box.Goals as goal

pub returns : goal.returns
returns c = contour_box
