use Rattle.std.proofs.Common.{arith}
use Rattle.std.proofs.lemmas.Grind.{common_steps}
use Rattle.cam_station.proofs.station.Station.set_window.Goals as goal

pub returns-then-not-is_accepted : goal.returns-then-not-is_accepted
returns-then-not-is_accepted c = grind (arith)

pub returns : goal.returns
returns c = grind (arith)

pub invariant_of-self : goal.invariant_of-self
invariant_of-self c = grind (arith, common_steps)
