use Rattle.cam_shapes.proofs.Caps.{cap_square}
use Rattle.cam_shapes.proofs.laws.cap_is_in_its_square.Goals as goal

pub returns : goal.returns
returns c = cap_square
