use Rattle.std.proofs.Common.{arith}
use Rattle.std.proofs.lemmas.Grind.{common_steps}
use Rattle.cam_xnc.specs.Syntax.{slot_statement}
use Rattle.cam_xnc.proofs.syntax.slot_statement.Goals as goal

pub returns : goal.returns
unfolding slot_statement
returns c = grind (arith, common_steps)

pub returns-in_default-coordinates : goal.returns-in_default-coordinates
unfolding slot_statement
returns-in_default-coordinates c = grind (arith, common_steps)
