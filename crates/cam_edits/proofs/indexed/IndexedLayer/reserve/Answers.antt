use Rattle.std.proofs.Common.{arith}
use Rattle.cam_edits.proofs.indexed.IndexedLayer.reserve.Goals as goal

pub returns-clause-attributes : goal.returns-clause-attributes
returns-clause-attributes c = grind (arith)

pub returns-clause-items : goal.returns-clause-items
returns-clause-items c = grind (arith)

pub invariant_of-self : goal.invariant_of-self
invariant_of-self c = grind (arith)

pub invariant_of-self-2 : goal.invariant_of-self-2
invariant_of-self-2 c = grind (arith)

pub returns-clause-content : goal.returns-clause-content
returns-clause-content c = grind (arith)
