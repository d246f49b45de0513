use Rattle.cam_shapes.proofs.Strokes.{circle_distance}
use Rattle.cam_shapes.proofs.laws.circle_is_near_by_distance.Goals as goal

pub returns : goal.returns
returns c = circle_distance
