use Rattle.std.proofs.Common.{arith}
use Rattle.cam_station.proofs.station.Station.list_layer.Goals as goal

pub returns : goal.returns
returns c = grind (arith)

pub returns-in_default : goal.returns-in_default
returns-in_default c = grind (arith)
