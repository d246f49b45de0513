use Rattle.std.proofs.Common.{arith}
use Rattle.cam_units.proofs.length.nm_per_step.Goals as goal

pub returns-in_default : goal.returns-in_default
returns-in_default c = grind (arith)

pub returns-in-0 : goal.returns-in-0
returns-in-0 c = grind (arith)
