use Rattle.std.proofs.Common.{arith}
use Rattle.cam_station.proofs.station.Station.write.Goals as goal

pub returns-in-Err : goal.returns-in-Err
returns-in-Err c = grind (arith)

pub returns-in-Ok : goal.returns-in-Ok
returns-in-Ok c = grind (arith)

pub returns-in_default : goal.returns-in_default
returns-in_default c = grind (arith)
