use Rattle.std.proofs.Common.{arith}
use Rattle.cam_station.proofs.station.Station.new.Goals as goal

pub returns-in_default : goal.returns-in_default
returns-in_default c = grind (arith)

pub returns-then-depth-lt1 : goal.returns-then-depth-lt1
returns-then-depth-lt1 c = grind (arith)

pub invariant_of-result : goal.invariant_of-result
invariant_of-result c = grind (arith)

pub returns : goal.returns
returns c = grind (arith)
