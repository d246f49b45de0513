use Rattle.std.proofs.Common.{arith}
use Rattle.cam_units.proofs.root.isqrt.Goals as goal

pub returns-then-is_root-2-clause-greatest : goal.returns-then-is_root-2-clause-greatest
returns-then-is_root-2-clause-greatest c = grind (arith)

pub returns-then-is_root-2-clause-square : goal.returns-then-is_root-2-clause-square
returns-then-is_root-2-clause-square c = grind (arith)

pub returns-then-is_root-clause-square : goal.returns-then-is_root-clause-square
returns-then-is_root-clause-square c = grind (arith)
