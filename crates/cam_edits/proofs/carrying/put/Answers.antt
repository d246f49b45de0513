use Rattle.std.proofs.Common.{arith}
use Rattle.cam_edits.proofs.carrying.put.Goals as goal

pub returns-clause-items : goal.returns-clause-items
returns-clause-items c = grind (arith)
