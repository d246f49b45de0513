use Rattle.cam_shapes.proofs.Strokes.{arc_square}
use Rattle.cam_shapes.proofs.laws.arc_is_in_its_square.Goals as goal

pub returns : goal.returns
returns c = arc_square
