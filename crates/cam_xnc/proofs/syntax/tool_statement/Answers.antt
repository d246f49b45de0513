use Rattle.std.proofs.Common.{arith}
use Rattle.std.proofs.lemmas.Grind.{common_steps}
use Rattle.cam_xnc.specs.Syntax.{tool_by, tool_statement}
use Rattle.cam_xnc.proofs.syntax.tool_statement.Goals as goal

pub returns-in_default : goal.returns-in_default
unfolding tool_by tool_statement
returns-in_default c = grind (arith, common_steps)

pub returns-in-67 : goal.returns-in-67
unfolding tool_by tool_statement
returns-in-67 c = grind (arith, common_steps)
