use Rattle.std.proofs.Common.{arith}
use Rattle.cam_station.proofs.showing.blank_behind.Goals as goal

pub returns-in_ok-blank-in-Some-clause-room : goal.returns-in_ok-blank-in-Some-clause-room
returns-in_ok-blank-in-Some-clause-room c = grind (arith)

pub returns-in-None-clause-room : goal.returns-in-None-clause-room
returns-in-None-clause-room c = grind (arith)
