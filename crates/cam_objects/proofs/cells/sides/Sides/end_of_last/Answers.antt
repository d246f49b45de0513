use Rattle.std.proofs.Common.{arith}
use Rattle.cam_objects.proofs.cells.sides.Sides.end_of_last.Goals as goal

pub loop-place-preserved : goal.loop-place-preserved
loop-place-preserved c = grind (arith)

pub returns-then-meets-clause-apart : goal.returns-then-meets-clause-apart
returns-then-meets-clause-apart c = grind (arith)
