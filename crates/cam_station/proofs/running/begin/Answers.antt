use Rattle.std.proofs.Common.{arith}
use Rattle.std.proofs.lemmas.Grind.{common_steps}
use Rattle.cam_station.proofs.running.begin.Goals as goal

pub returns-else-eq : goal.returns-else-eq
returns-else-eq c = grind (arith, common_steps)
