use Rattle.std.proofs.Common.{arith, rules}
use Rattle.std.proofs.lemmas.Grind.{common_steps}
use Rattle.cam_apertures.proofs.boxes.is_between.Goals as goal

pub returns-then-spot-low-2 : goal.returns-then-spot-low-2
returns-then-spot-low-2 c = grind (arith, common_steps)

pub returns : goal.returns
returns c = search rules

pub returns-then-spot-low : goal.returns-then-spot-low
returns-then-spot-low c = grind (arith, common_steps)

pub returns-then-high-spot : goal.returns-then-high-spot
returns-then-high-spot c = grind (arith, common_steps)
