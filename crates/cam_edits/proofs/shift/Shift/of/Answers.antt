use Rattle.std.proofs.Common.{refl, arith}
use Rattle.cam_objects.specs.Shifting.{shifted_item}
use Rattle.cam_edits.specs.Moving.{IsMovableItem, way}
use Rattle.cam_edits.specs.Steps.{HasAperture, IsOne, with_aperture, with_object, with_polarity}
use Rattle.cam_edits.proofs.ShiftedItems.{reordered_shift, shift_at}
use Rattle.cam_edits.proofs.shift.Shift.of.Goals as goal

pub returns-in-Reorder : goal.returns-in-Reorder
returns-in-Reorder c = λ content fit.
    let fits = rw c.in-Reorder.is at fit in
    rw (c.between-in-Reorder.ensures, c.in-Reorder.is)
    (reordered_shift content.items c.in-Reorder.k c.in-Reorder.m fits.0 fits.1)

pub returns-in-Move : goal.returns-in-Move
returns-in-Move c = λ content fit.
    let fits = rw c.in-Move.is at fit in
    rw (c.between-in-Move.ensures, c.in-Move.is)
    (shift_at (IsMovableItem (way c.in-Move.dx c.in-Move.dy)) (shifted_item (way c.in-Move.dx c.in-Move.dy)) content.items c.in-Move.k fits.1)

pub returns-in-Aperture : goal.returns-in-Aperture
returns-in-Aperture c = λ content fit.
    let fits = rw c.in-Aperture.is at fit in
    rw (c.between-in-Aperture.ensures, c.in-Aperture.is)
    (shift_at (IsOne HasAperture) (with_object (with_aperture c.in-Aperture.n)) content.items c.in-Aperture.k fits)

pub returns-in-Polarity : goal.returns-in-Polarity
returns-in-Polarity c = λ content fit.
    let fits = rw c.in-Polarity.is at fit in
    rw (c.between-in-Polarity.ensures, c.in-Polarity.is)
    (shift_at (IsOne (λ _. Unit {0})) (with_object (with_polarity c.in-Polarity.dark)) content.items c.in-Polarity.k fits)

pub returns-in-PutAttribute : goal.returns-in-PutAttribute
returns-in-PutAttribute c = λ content fit. rw (c.between-in-PutAttribute.ensures, c.in-PutAttribute.is) refl

pub returns-in-TakeAttribute : goal.returns-in-TakeAttribute
returns-in-TakeAttribute c = λ content fit. rw (c.between-in-TakeAttribute.ensures, c.in-TakeAttribute.is) refl

pub returns-in-SetFields : goal.returns-in-SetFields
returns-in-SetFields c = λ content fit. rw (c.between-in-SetFields.ensures, c.in-SetFields.is) refl

pub returns-in-Insert : goal.returns-in-Insert
returns-in-Insert c = grind (arith)
