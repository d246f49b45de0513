use Rattle.std.proofs.Common.{arith}
use Rattle.cam_script.proofs.attributes.drop_change.Goals as goal

pub returns : goal.returns
returns c = grind (arith)

pub returns-then-not-is_key : goal.returns-then-not-is_key
returns-then-not-is_key c = grind (arith)
