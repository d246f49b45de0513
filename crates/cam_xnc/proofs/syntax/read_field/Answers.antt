use Rattle.std.proofs.Common.{arith}
use Rattle.std.proofs.lemmas.Grind.{common_steps}
use Rattle.cam_xnc.specs.Syntax.{line_field}
use Rattle.cam_xnc.proofs.syntax.read_field.Goals as goal

pub returns-in-len1-up-clause-behind : goal.returns-in-len1-up-clause-behind
unfolding line_field
returns-in-len1-up-clause-behind c = grind (arith, common_steps)

pub returns-in-len1-up-clause-run : goal.returns-in-len1-up-clause-run
unfolding line_field
returns-in-len1-up-clause-run c = grind (arith, common_steps)
