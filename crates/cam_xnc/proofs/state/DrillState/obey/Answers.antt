use Rattle.std.proofs.Common.{arith}
use Rattle.cam_xnc.proofs.state.DrillState.obey.Goals as goal

pub returns-in-Body : goal.returns-in-Body
returns-in-Body c = grind (arith)

pub returns-in-Header : goal.returns-in-Header
returns-in-Header c = grind (arith)
