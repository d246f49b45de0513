use Rattle.std.proofs.Common.{arith}
use Rattle.cam_station.proofs.Loading.{answers}
use Rattle.cam_station.proofs.reading.read.Goals as goal

pub returns-in_ok-layer-in-Gerber-clause-sound : goal.returns-in_ok-layer-in-Gerber-clause-sound
returns-in_ok-layer-in-Gerber-clause-sound c = grind (arith)

pub returns-in_ok-layer-in-Drill-clause-sound : goal.returns-in_ok-layer-in-Drill-clause-sound
returns-in_ok-layer-in-Drill-clause-sound c = grind (arith)

pub returns-in_err-layer-in-Gerber-clause-reads : goal.returns-in_err-layer-in-Gerber-clause-reads
returns-in_err-layer-in-Gerber-clause-reads c = grind (arith, answers)

pub returns-in_ok-layer-in-Gerber-clause-reads : goal.returns-in_ok-layer-in-Gerber-clause-reads
returns-in_ok-layer-in-Gerber-clause-reads c = grind (arith, answers)

pub returns-in_err-layer-in-Drill-clause-reads : goal.returns-in_err-layer-in-Drill-clause-reads
returns-in_err-layer-in-Drill-clause-reads c = grind (arith, answers)

pub returns-in_ok-layer-in-Drill-clause-reads : goal.returns-in_ok-layer-in-Drill-clause-reads
returns-in_ok-layer-in-Drill-clause-reads c = grind (arith)
