use Rattle.std.proofs.Common.{arith}
use Rattle.cam_objects.proofs.checks.inside.fits_box.Goals as goal

pub returns-then-is_place : goal.returns-then-is_place
returns-then-is_place c = grind (arith)

pub returns-in-Empty : goal.returns-in-Empty
returns-in-Empty c = grind (arith)

pub returns-else-is_place : goal.returns-else-is_place
returns-else-is_place c = grind (arith)
