use Rattle.std.proofs.Common.{arith}
use Rattle.cam_commands.proofs.words.by_operation_code.Goals as goal

pub returns-in-Some : goal.returns-in-Some
returns-in-Some c = grind (arith)

pub returns : goal.returns
returns c = grind (arith)
