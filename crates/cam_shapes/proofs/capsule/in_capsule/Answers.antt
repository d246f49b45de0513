use Rattle.std.proofs.Common.{arith}
use Rattle.cam_shapes.proofs.capsule.in_capsule.Goals as goal

pub returns-else-is_positive : goal.returns-else-is_positive
returns-else-is_positive c = grind (arith)

pub returns-then-is_within-2 : goal.returns-then-is_within-2
returns-then-is_within-2 c = grind (arith)

pub returns-else-is_within-2 : goal.returns-else-is_within-2
returns-else-is_within-2 c = grind (arith)
