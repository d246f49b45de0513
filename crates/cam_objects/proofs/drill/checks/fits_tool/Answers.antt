use Rattle.std.proofs.Common.{arith}
use Rattle.cam_objects.proofs.drill.checks.fits_tool.Goals as goal

pub returns-then-diameter-ge1 : goal.returns-then-diameter-ge1
returns-then-diameter-ge1 c = grind (arith)

pub returns-else-diameter-ge1 : goal.returns-else-diameter-ge1
returns-else-diameter-ge1 c = grind (arith)
