use Rattle.std.proofs.Common.{arith}
use Rattle.cam_script.proofs.parse.list.Goals as goal

pub returns-then-is_some : goal.returns-then-is_some
returns-then-is_some c = grind (arith)

pub returns : goal.returns
returns c = grind (arith)

pub returns-in_default : goal.returns-in_default
returns-in_default c = grind (arith)
