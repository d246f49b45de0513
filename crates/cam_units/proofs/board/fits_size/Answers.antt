use Rattle.std.proofs.Common.{arith}
use Rattle.cam_units.proofs.board.fits_size.Goals as goal

pub returns-else-length-ge0 : goal.returns-else-length-ge0
returns-else-length-ge0 c = grind (arith)

pub returns-then-length-ge0 : goal.returns-then-length-ge0
returns-then-length-ge0 c = grind (arith)
