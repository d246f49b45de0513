use Rattle.std.proofs.Common.{arith}
use Rattle.cam_shapes.proofs.obround.is_along.Goals as goal

pub returns-else-is_within : goal.returns-else-is_within
returns-else-is_within c = grind (arith)

pub returns-then-is_within : goal.returns-then-is_within
returns-then-is_within c = grind (arith)
