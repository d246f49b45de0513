use Rattle.std.proofs.Common.{ap, sym, subst, ◌∙◌, arith}
use Rattle.cam_objects.specs.declared.object.Object.{Object}
use Rattle.cam_objects.specs.declared.placing.place.Place.{Place}
use Rattle.cam_objects.specs.Leaves.{flashed, meaning_in, object_leaves, origin}
use Rattle.cam_units.specs.Board.{IsOnBoard}
use Rattle.cam_objects.specs.Machinery.Boxes.{IsBoxOffset}
use Rattle.cam_objects.specs.Machinery.Facts.{points_bounds_of}
use Rattle.cam_objects.specs.Machinery.Painting.{StandsOnBoard}
use Rattle.cam_objects.proofs.PaintedBoxes.{painted_flash, painted_standing}
use Rattle.cam_objects.proofs.Placed.{flashed_box}
use Rattle.cam_objects.proofs.checks.inside.painted_box.Goals as goal

pub bounds-requires-clause-offset : goal.bounds-requires-clause-offset
bounds-requires-clause-offset c =
    let at_board : IsOnBoard c.in-Flash.at = subst StandsOnBoard c.in-Flash.is c.requires.stands 0 c.in-Flash.at (omega arith) in
    let place = c.flashed-place.ensures ∙ ap (λ (p : Place). flashed p c.in-Flash.at c.in-Flash.turn c.in-Flash.dark) c.origin.ensures in
    subst (λ (p : Place). IsBoxOffset p.offset) (sym place)
    (flashed_box c.in-Flash.at c.in-Flash.turn c.in-Flash.dark at_board)

pub returns-in-Flash : goal.returns-in-Flash
returns-in-Flash c =
    let place = c.flashed-place.ensures ∙ ap (λ (p : Place). flashed p c.in-Flash.at c.in-Flash.turn c.in-Flash.dark) c.origin.ensures in
    painted_flash c.args.entries.now c.in-Flash.aperture c.in-Flash.at c.in-Flash.turn c.in-Flash.dark c.flashed-place.result
    c.facts.result.now c.bounds.result
    place c.facts.ensures.value c.bounds.ensures
    ∙ ap (λ (o : Object). points_bounds_of (object_leaves (meaning_in c.args.entries.now) origin o)) (sym c.in-Flash.is)

pub returns-in_default : goal.returns-in_default
returns-in_default c =
    c.standing_box.ensures ∙ sym (painted_standing
    (meaning_in c.args.entries.now) c.args.object.now c.in_default.not-Flash c.requires.drawable)

pub bounds-requires-clause-bounds : goal.bounds-requires-clause-bounds
bounds-requires-clause-bounds c = grind (arith)
