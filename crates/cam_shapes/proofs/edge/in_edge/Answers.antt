use Rattle.std.proofs.Common.{arith, rules}
use Rattle.cam_shapes.proofs.edge.in_edge.Goals as goal

pub returns-then-is_falling : goal.returns-then-is_falling
returns-then-is_falling c = search rules

pub returns-else-is_falling : goal.returns-else-is_falling
returns-else-is_falling c = search rules

pub returns-then-is_above-is_falling : goal.returns-then-is_above-is_falling
returns-then-is_above-is_falling c = grind (arith)
