use Rattle.std.proofs.Common.{arith}
use Rattle.cam_xnc.proofs.state.DrillState.is_too_much.Goals as goal

pub returns-else-len-ge-COUNT_LIMIT-clause-room : goal.returns-else-len-ge-COUNT_LIMIT-clause-room
returns-else-len-ge-COUNT_LIMIT-clause-room c = grind (arith)

pub returns-then-len-ge-COUNT_LIMIT-clause-room : goal.returns-then-len-ge-COUNT_LIMIT-clause-room
returns-then-len-ge-COUNT_LIMIT-clause-room c = grind (arith)
