use Rattle.std.proofs.Common.{arith}
use Rattle.std.proofs.lemmas.Grind.{common_steps}
use Rattle.cam_ask.specs.Texts.{coordinate_text}
use Rattle.cam_ask.proofs.lines.push_coordinate.Goals as goal

pub returns-then-halves-eq0 : goal.returns-then-halves-eq0
unfolding coordinate_text
returns-then-halves-eq0 c = grind (arith, common_steps)

pub returns : goal.returns
unfolding coordinate_text
returns c = grind (arith, common_steps)
