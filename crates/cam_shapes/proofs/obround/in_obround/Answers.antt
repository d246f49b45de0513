use Rattle.std.proofs.Common.{arith}
use Rattle.cam_shapes.proofs.obround.in_obround.Goals as goal

pub returns-else-is_positive-2 : goal.returns-else-is_positive-2
returns-else-is_positive-2 c = grind (arith)

pub returns-then-is_positive-2 : goal.returns-then-is_positive-2
returns-then-is_positive-2 c = grind (arith)
