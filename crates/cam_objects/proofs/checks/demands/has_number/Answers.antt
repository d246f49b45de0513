use Rattle.std.proofs.Common.{arith}
use Rattle.cam_objects.proofs.Numbers.{number_found}
use Rattle.cam_objects.proofs.checks.demands.has_number.Goals as goal

pub returns-in-Some : goal.returns-in-Some
returns-in-Some c = grind (arith, number_found)
