use Rattle.std.proofs.Common.{arith}
use Rattle.cam_objects.proofs.layer.Layer.check_entry.Goals as goal

pub returns-then-number-lt-FIRST_NUMBER : goal.returns-then-number-lt-FIRST_NUMBER
returns-then-number-lt-FIRST_NUMBER c = grind (arith)

pub returns-in-Aperture : goal.returns-in-Aperture
returns-in-Aperture c = grind (arith)

pub returns-in-Block : goal.returns-in-Block
returns-in-Block c = grind (arith)

pub returns-then-has_number : goal.returns-then-has_number
returns-then-has_number c = grind (arith)
