use Rattle.std.proofs.Common.{arith}
use Rattle.cam_tiles.proofs.masks.swath.Swath.is_done.Goals as goal

pub returns-clause-done : goal.returns-clause-done
returns-clause-done c = grind (arith)

pub invariant_of-self : goal.invariant_of-self
invariant_of-self c = grind (arith)
