use Rattle.std.proofs.Common.{arith}
use Rattle.cam_apertures.proofs.aperture.Aperture.is_sound.Goals as goal

pub returns-in-Prims : goal.returns-in-Prims
returns-in-Prims c = grind (arith)

pub returns-else-is_side-2 : goal.returns-else-is_side-2
returns-else-is_side-2 c = grind (arith)

pub returns-then-is_side-2 : goal.returns-then-is_side-2
returns-then-is_side-2 c = grind (arith)

pub returns-else-fits_size : goal.returns-else-fits_size
returns-else-fits_size c = grind (arith)

pub returns-then-fits_size : goal.returns-then-fits_size
returns-then-fits_size c = grind (arith)
