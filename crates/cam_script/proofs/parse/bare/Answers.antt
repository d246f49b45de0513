use Rattle.std.proofs.Common.{arith}
use Rattle.cam_script.proofs.parse.bare.Goals as goal

pub returns : goal.returns
returns c = grind (arith)

pub returns-then-is_some : goal.returns-then-is_some
returns-then-is_some c = grind (arith)
