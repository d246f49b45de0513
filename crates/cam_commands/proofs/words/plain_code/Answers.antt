use Rattle.std.proofs.Common.{arith}
use Rattle.std.proofs.lemmas.Grind.{common_steps}
use Rattle.cam_commands.proofs.words.plain_code.Goals as goal

pub returns-in-50 : goal.returns-in-50
returns-in-50 c = grind (arith, common_steps)

pub returns-in-49 : goal.returns-in-49
returns-in-49 c = grind (arith, common_steps)

pub returns-in-51 : goal.returns-in-51
returns-in-51 c = grind (arith, common_steps)
