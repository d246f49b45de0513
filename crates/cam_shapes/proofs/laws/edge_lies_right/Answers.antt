use Rattle.cam_shapes.proofs.Crossings.{falling, level, right, rising}
use Rattle.cam_shapes.proofs.laws.edge_lies_right.Goals as goal

pub returns : goal.returns
returns c = record { rising = rising; falling = falling; level = level; right = right }
