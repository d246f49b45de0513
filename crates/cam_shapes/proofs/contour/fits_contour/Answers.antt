use Rattle.std.proofs.Common.{arith}
use Rattle.std.proofs.lemmas.Bool.{false≢true}
use Rattle.cam_shapes.proofs.Places.{offset_short}
use Rattle.cam_shapes.proofs.contour.fits_contour.Goals as goal

pub returns-then-not-fits_offset : goal.returns-then-not-fits_offset
returns-then-not-fits_offset c = grind (arith, false≢true, offset_short)

pub returns-else-fits_point : goal.returns-else-fits_point
returns-else-fits_point c = grind (arith)

pub returns-then-fits_point : goal.returns-then-fits_point
returns-then-fits_point c = grind (arith)
