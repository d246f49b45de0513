use Rattle.std.proofs.Common.{arith}
use Rattle.cam_station.proofs.station.Station.begin.Goals as goal

pub returns : goal.returns
returns c = grind (arith)

pub invariant_of-self : goal.invariant_of-self
invariant_of-self c = grind (arith)
