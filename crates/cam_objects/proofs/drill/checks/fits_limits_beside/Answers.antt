use Rattle.std.proofs.Common.{arith}
use Rattle.std.proofs.lemmas.Grind.{common_steps}
use Rattle.cam_objects.proofs.drill.checks.fits_limits_beside.Goals as goal

pub returns-else-items-lt-COUNT_LIMIT : goal.returns-else-items-lt-COUNT_LIMIT
returns-else-items-lt-COUNT_LIMIT c = grind (arith, common_steps)

pub returns-then-items-lt-COUNT_LIMIT : goal.returns-then-items-lt-COUNT_LIMIT
returns-then-items-lt-COUNT_LIMIT c = grind (arith, common_steps)
