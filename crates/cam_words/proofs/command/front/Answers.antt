use Rattle.std.proofs.Common.{arith}
use Rattle.std.proofs.lemmas.Grind.{common_steps}
use Rattle.cam_words.proofs.command.front.Goals as goal

pub returns-in-37-clause-value : goal.returns-in-37-clause-value
returns-in-37-clause-value c = grind (arith, common_steps)

pub returns-in-37-clause-inside : goal.returns-in-37-clause-inside
returns-in-37-clause-inside c = grind (arith)
