use Rattle.std.proofs.Common.{arith}
use Rattle.std.proofs.lemmas.Grind.{common_steps}
use Rattle.cam_xnc.specs.Syntax.{statement_of}
use Rattle.cam_xnc.proofs.syntax.packed_statement.Goals as goal

pub returns-in-84 : goal.returns-in-84
unfolding statement_of
returns-in-84 c = grind (arith, common_steps)
