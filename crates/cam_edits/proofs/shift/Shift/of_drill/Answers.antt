use Rattle.std.proofs.Common.{refl, arith}
use Rattle.cam_objects.specs.Shifting.{shifted_drill_item}
use Rattle.cam_edits.specs.DrillSteps.{with_tool}
use Rattle.cam_edits.specs.Moving.{IsMovableDrillItem, way}
use Rattle.cam_edits.proofs.ShiftedItems.{reordered_shift, shift_at, shift_there}
use Rattle.cam_edits.proofs.shift.Shift.of_drill.Goals as goal

pub returns-in-Reorder : goal.returns-in-Reorder
returns-in-Reorder c = λ content fit.
    let fits = rw c.in-Reorder.is at fit in
    rw (c.between-in-Reorder.ensures, c.in-Reorder.is)
    (reordered_shift content.items c.in-Reorder.k c.in-Reorder.m fits.0 fits.1)

pub returns-in-Move : goal.returns-in-Move
returns-in-Move c = λ content fit.
    let fits = rw c.in-Move.is at fit in
    rw (c.between-in-Move.ensures, c.in-Move.is)
    (shift_at (IsMovableDrillItem (way c.in-Move.dx c.in-Move.dy)) (shifted_drill_item (way c.in-Move.dx c.in-Move.dy)) content.items c.in-Move.k fits.1)

pub returns-in-Tool : goal.returns-in-Tool
returns-in-Tool c = λ content fit.
    let fits = rw c.in-Tool.is at fit in
    rw (c.between-in-Tool.ensures, c.in-Tool.is)
    (shift_there (with_tool c.in-Tool.t) content.items c.in-Tool.k fits)

pub returns-in-Diameter : goal.returns-in-Diameter
returns-in-Diameter c = λ content fit. rw (c.between-in-Diameter.ensures, c.in-Diameter.is) refl

pub returns-in-Insert : goal.returns-in-Insert
returns-in-Insert c = grind (arith)
