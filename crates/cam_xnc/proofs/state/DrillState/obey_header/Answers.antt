use Rattle.std.proofs.Common.{arith}
use Rattle.cam_xnc.proofs.state.DrillState.obey_header.Goals as goal

pub returns-in-SetUnit : goal.returns-in-SetUnit
returns-in-SetUnit c = grind (arith)

pub returns-in-Declare : goal.returns-in-Declare
returns-in-Declare c = grind (arith)
