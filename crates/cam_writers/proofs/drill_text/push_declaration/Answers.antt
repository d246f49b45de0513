use Rattle.std.proofs.Common.{arith}
use Rattle.std.proofs.lemmas.Grind.{common_steps}
use Rattle.cam_writers.specs.DrillTexts.{declaration}
use Rattle.cam_writers.proofs.drill_text.push_declaration.Goals as goal

pub returns : goal.returns
unfolding declaration
returns c = grind (arith, common_steps)
