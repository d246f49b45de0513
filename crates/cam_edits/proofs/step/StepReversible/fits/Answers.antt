use Rattle.std.proofs.Common.{arith, rules}
use Rattle.cam_edits.proofs.step.StepReversible.fits.Goals as goal

pub returns-in-Aperture : goal.returns-in-Aperture
returns-in-Aperture c = rw c.in-Aperture.is (rw c.deref-in-Aperture.ensures.value at c.has_aperture_at.ensures)

pub returns-in-Polarity : goal.returns-in-Polarity
returns-in-Polarity c = rw c.in-Polarity.is (rw c.deref-in-Polarity.ensures.value at c.is_object_at.ensures)

pub returns-then-k-len : goal.returns-then-k-len
returns-then-k-len c = grind (arith)

pub returns-in-Delete : goal.returns-in-Delete
returns-in-Delete c = grind (arith)

pub returns-in-PutAttribute : goal.returns-in-PutAttribute
returns-in-PutAttribute c = grind (arith)

pub returns-in-SetFields : goal.returns-in-SetFields
returns-in-SetFields c = grind (arith)

pub returns-in-Insert : goal.returns-in-Insert
returns-in-Insert c = grind (arith)

pub returns-in-Move : goal.returns-in-Move
returns-in-Move c = search rules

pub returns-else-k-len : goal.returns-else-k-len
returns-else-k-len c = grind (arith)

pub returns-in-TakeAttribute : goal.returns-in-TakeAttribute
returns-in-TakeAttribute c = grind (arith)
