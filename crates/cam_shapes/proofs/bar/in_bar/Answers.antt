use Rattle.std.proofs.Common.{arith}
use Rattle.cam_shapes.proofs.bar.in_bar.Goals as goal

pub returns-then-is_positive : goal.returns-then-is_positive
returns-then-is_positive c = grind (arith)

pub returns-else-is_positive : goal.returns-else-is_positive
returns-else-is_positive c = grind (arith)
