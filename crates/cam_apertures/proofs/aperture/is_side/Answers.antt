use Rattle.std.proofs.Common.{arith}
use Rattle.cam_apertures.proofs.aperture.is_side.Goals as goal

pub returns-then-length-gt0 : goal.returns-then-length-gt0
returns-then-length-gt0 c = grind (arith)

pub returns-else-length-gt0 : goal.returns-else-length-gt0
returns-else-length-gt0 c = grind (arith)
