use Rattle.std.proofs.Common.{arith}
use Rattle.cam_edits.proofs.step.StepReversible.room.Goals as goal

pub returns-clause-room : goal.returns-clause-room
returns-clause-room c = grind (arith)

pub returns-clause-content : goal.returns-clause-content
returns-clause-content c = grind (arith)
