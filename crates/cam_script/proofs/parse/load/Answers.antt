use Rattle.std.proofs.Common.{arith}
use Rattle.cam_script.proofs.parse.load.Goals as goal

pub returns-then-not-is_name : goal.returns-then-not-is_name
returns-then-not-is_name c = grind (arith)

pub returns : goal.returns
returns c = grind (arith)
