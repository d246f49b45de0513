use Rattle.cam_shapes.specs.Plane.{square}
use Rattle.cam_shapes.proofs.Circles.{same_inequality}
use Rattle.cam_shapes.proofs.laws.circle_forms_agree.Goals as goal

pub returns : goal.returns
returns c = λ p q r. same_inequality p q (square r)
