use Rattle.std.proofs.Common.{arith}
use Rattle.cam_shapes.proofs.disc.in_disc.Goals as goal

pub returns-else-is_positive : goal.returns-else-is_positive
returns-else-is_positive c = grind (arith)

pub returns-then-is_positive : goal.returns-then-is_positive
returns-then-is_positive c = grind (arith)
