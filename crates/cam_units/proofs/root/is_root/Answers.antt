use Rattle.std.proofs.Common.{arith}
use Rattle.cam_units.proofs.root.is_root.Goals as goal

pub returns-else-square-n-clause-greatest : goal.returns-else-square-n-clause-greatest
returns-else-square-n-clause-greatest c = grind (arith)

pub returns-then-square-n-clause-square : goal.returns-then-square-n-clause-square
returns-then-square-n-clause-square c = grind (arith)

pub returns-then-square-n-clause-greatest : goal.returns-then-square-n-clause-greatest
returns-then-square-n-clause-greatest c = grind (arith)

pub returns-else-square-n-clause-square : goal.returns-else-square-n-clause-square
returns-else-square-n-clause-square c = grind (arith)
