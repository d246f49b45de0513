use Rattle.std.proofs.Common.{arith}
use Rattle.cam_shapes.proofs.arc.in_arc.Goals as goal

pub returns-then-is_within-2 : goal.returns-then-is_within-2
returns-then-is_within-2 c = grind (arith)

pub returns-else-is_swept : goal.returns-else-is_swept
returns-else-is_swept c = grind (arith)

pub returns-else-is_positive : goal.returns-else-is_positive
returns-else-is_positive c = grind (arith)

pub returns-then-is_swept : goal.returns-then-is_swept
returns-then-is_swept c = grind (arith)
