use Rattle.std.proofs.Common.{arith}
use Rattle.cam_station.proofs.station.Station.entry.Goals as goal

pub returns-in_err-layer : goal.returns-in_err-layer
returns-in_err-layer c = grind (arith)

pub returns : goal.returns
returns c = grind (arith)
