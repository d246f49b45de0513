use Rattle.std.proofs.Common.{arith, rules}
use Rattle.std.proofs.lemmas.Grind.{common_steps}
use Rattle.cam_shapes.proofs.vector.Vector.is_between.Goals as goal

pub returns-then-abs-width : goal.returns-then-abs-width
returns-then-abs-width c = search rules

pub abs-requires-then-abs-width : goal.abs-requires-then-abs-width
abs-requires-then-abs-width c = grind (arith, common_steps)

pub returns-else-abs-width : goal.returns-else-abs-width
returns-else-abs-width c = grind (arith)
