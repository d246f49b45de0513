use Rattle.std.proofs.Common.{arith}
use Rattle.cam_edits.proofs.indexed_drill.IndexedDrillLayer.reserve.Goals as goal

pub invariant_of-self : goal.invariant_of-self
invariant_of-self c = grind (arith)

pub returns-clause-items : goal.returns-clause-items
returns-clause-items c = grind (arith)
