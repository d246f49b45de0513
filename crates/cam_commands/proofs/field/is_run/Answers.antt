use Rattle.std.proofs.Common.{arith}
use Rattle.cam_commands.proofs.Runs.{packed_rest}
use Rattle.cam_commands.proofs.field.is_run.Goals as goal

pub returns : goal.returns
returns c = grind (arith, packed_rest)
