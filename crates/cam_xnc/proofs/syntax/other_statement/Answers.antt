use Rattle.std.proofs.Common.{arith, rules}
use Rattle.cam_xnc.specs.Syntax.{other_statement}
use Rattle.cam_xnc.proofs.syntax.other_statement.Goals as goal

pub returns-else-eq-14 : goal.returns-else-eq-14
unfolding other_statement
returns-else-eq-14 c = grind (arith)

pub returns-then-eq-6 : goal.returns-then-eq-6
unfolding other_statement
returns-then-eq-6 c = search rules

pub returns-then-eq-14 : goal.returns-then-eq-14
unfolding other_statement
returns-then-eq-14 c = search rules
