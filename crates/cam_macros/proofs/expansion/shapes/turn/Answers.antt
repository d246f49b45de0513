use Rattle.std.proofs.Common.{arith}
use Rattle.std.proofs.lemmas.Grind.{common_steps}
use Rattle.cam_macros.proofs.FieldLemmas.{turn_short}
use Rattle.cam_macros.proofs.expansion.shapes.turn.Goals as goal

pub returns-in_default : goal.returns-in_default
returns-in_default c = grind (arith, turn_short)

pub returns-in-len1 : goal.returns-in-len1
returns-in-len1 c = grind (arith, common_steps)

pub returns-in-empty : goal.returns-in-empty
returns-in-empty c = grind (arith, common_steps)
