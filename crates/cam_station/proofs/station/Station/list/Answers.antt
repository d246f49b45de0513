use Rattle.std.proofs.Common.{arith}
use Rattle.cam_station.proofs.station.Station.list.Goals as goal

pub returns : goal.returns
returns c = grind (arith)
