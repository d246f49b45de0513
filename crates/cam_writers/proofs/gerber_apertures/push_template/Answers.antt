use Rattle.std.proofs.Common.{arith}
use Rattle.std.proofs.lemmas.Grind.{common_steps}
use Rattle.cam_writers.proofs.gerber_apertures.push_template.Goals as goal

pub returns-in_ok-push_sides-in-Rect : goal.returns-in_ok-push_sides-in-Rect
returns-in_ok-push_sides-in-Rect c = grind (arith, common_steps)

pub returns-in_ok-push_mm-in-Circle : goal.returns-in_ok-push_mm-in-Circle
returns-in_ok-push_mm-in-Circle c = grind (arith, common_steps)

pub returns-in_ok-push_sides-in-Obround : goal.returns-in_ok-push_sides-in-Obround
returns-in_ok-push_sides-in-Obround c = grind (arith, common_steps)
