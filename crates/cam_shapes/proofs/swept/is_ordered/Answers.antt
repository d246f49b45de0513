use Rattle.std.proofs.Common.{arith, rules}
use Rattle.std.proofs.lemmas.Grind.{common_steps}
use Rattle.cam_shapes.proofs.swept.is_ordered.Goals as goal

pub returns-then-low-high : goal.returns-then-low-high
returns-then-low-high c = search rules

pub returns-else-low-high : goal.returns-else-low-high
returns-else-low-high c = grind (arith, common_steps)
