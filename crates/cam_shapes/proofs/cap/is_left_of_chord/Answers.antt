use Rattle.std.proofs.Common.{arith, rules}
use Rattle.std.proofs.lemmas.Grind.{common_steps}
use Rattle.cam_shapes.proofs.cap.is_left_of_chord.Goals as goal

pub returns-then-chord-eq0 : goal.returns-then-chord-eq0
returns-then-chord-eq0 c = search rules

pub returns-else-chord-eq0 : goal.returns-else-chord-eq0
returns-else-chord-eq0 c = grind (arith)

pub returns-then-side-ne0 : goal.returns-then-side-ne0
returns-then-side-ne0 c = grind (arith, common_steps)

pub returns-then-chord-lt0 : goal.returns-then-chord-lt0
returns-then-chord-lt0 c = grind (arith, common_steps)
