use Rattle.std.proofs.Common.{arith}
use Rattle.cam_shapes.proofs.placing.Placing.fits_seg.Goals as goal

pub returns-else-fits_point : goal.returns-else-fits_point
returns-else-fits_point c = grind (arith)

pub returns-in-Line : goal.returns-in-Line
returns-in-Line c = grind (arith)

pub returns-then-fits_point : goal.returns-then-fits_point
returns-then-fits_point c = grind (arith)
