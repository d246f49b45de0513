use Rattle.std.proofs.Common.{◌∙◌, ap, length, refl, subst, arith, List, rules}
use Rattle.std.proofs.lemmas.Grind.{common_steps}
use Rattle.cam_units.specs.declared.point.Point.{Point}
use Rattle.cam_objects.specs.declared.drill_item.DrillItem.{DrillItem}
use Rattle.cam_objects.specs.Shifting.{shifted_drill_item}
use Rattle.cam_edits.specs.Moving.{IsMovableDrillItem, way}
use Rattle.std.proofs.lemmas.List.{length-set}
use Rattle.std.proofs.lemmas.List.Edits.{length-insert}
use Rattle.cam_objects.specs.Contents.{drill_content_of}
use Rattle.cam_edits.specs.DrillSteps.{IsDrillFit}
use Rattle.cam_edits.proofs.ReadItems.{has_place, negated_fits, read_there, set_is_changed, way_is}
use Rattle.cam_edits.proofs.RoomLeft.{holes_left}
use Rattle.cam_edits.proofs.drill_step.DrillStepReversible.play.Goals as goal

pub returns-in-Insert-clause-room : goal.returns-in-Insert-clause-room
returns-in-Insert-clause-room c = λ rest room.
    let fits = subst (λ s. IsDrillFit s (drill_content_of c.args.layer.now)) c.in-Insert.is c.requires.fits in
    holes_left rest c.args.self c.args.layer.now room _ c.in-Insert.is _ _ (omega (arith, length-insert c.args.layer.now.items.items c.in-Insert.k c.in-Insert.item fits, ap length c.put.ensures.items)) (omega (arith, c.put.ensures.room))

pub returns-in-Delete-clause-room : goal.returns-in-Delete-clause-room
returns-in-Delete-clause-room c = λ rest room.
    holes_left rest c.args.self c.args.layer.now room _ c.in-Delete.is _ _ (omega (arith, c.remove.ensures.len, c.remove.new.self.ok.0, c.args.layer.now.items.ok.0)) (omega (arith, c.remove.ensures.capacity))

pub returns-in-Move-clause-room : goal.returns-in-Move-clause-room
returns-in-Move-clause-room c = λ rest room.
    holes_left rest c.args.self c.args.layer.now room _ c.in-Move.is _ _ (omega (arith, length-set c.args.layer.now.items.items c.in-Move.k c.shift.new.self)) (omega arith)

pub returns-in-Tool-clause-room : goal.returns-in-Tool-clause-room
returns-in-Tool-clause-room c = λ rest room.
    holes_left rest c.args.self c.args.layer.now room _ c.in-Tool.is _ _ (omega (arith, length-set c.args.layer.now.items.items c.in-Tool.k c.set_tool-t.new.item)) (omega arith)

pub returns-in-Diameter-clause-room : goal.returns-in-Diameter-clause-room
returns-in-Diameter-clause-room c = λ rest room.
    holes_left rest c.args.self c.args.layer.now room _ c.in-Diameter.is _ _ (omega arith) (omega arith)

pub put-requires-clause-place : goal.put-requires-clause-place
put-requires-clause-place c = rw c.in-Insert.is at c.requires.fits

pub remove-requires : goal.remove-requires
remove-requires c = let fits = rw c.in-Delete.is at c.requires.fits in omega (arith, fits, c.args.layer.now.items.ok.0)

pub index_mut-requires : goal.index_mut-requires
index_mut-requires c = grind (arith, has_place)

pub overflow_sub-result : goal.overflow_sub-result
overflow_sub-result c = let fits = rw c.in-Move.is at c.requires.fits in negated_fits c.in-Move.dx fits.0.x

pub overflow_sub-result-in-Move : goal.overflow_sub-result-in-Move
overflow_sub-result-in-Move c = let fits = rw c.in-Move.is at c.requires.fits in negated_fits c.in-Move.dy fits.0.y

pub index_mut-requires-in-Tool : goal.index_mut-requires-in-Tool
index_mut-requires-in-Tool c = let fits = rw c.in-Tool.is at c.requires.fits in omega (arith, fits, c.args.layer.now.items.ok.0)

pub returns-in-Insert-clause-answer : goal.returns-in-Insert-clause-answer
returns-in-Insert-clause-answer c = rw c.in-Insert.is refl

pub returns-in-Delete-clause-answer : goal.returns-in-Delete-clause-answer
returns-in-Delete-clause-answer c = grind (arith, read_there)

pub returns-in-Move-clause-content : goal.returns-in-Move-clause-content
returns-in-Move-clause-content c =
    let fits = rw c.in-Move.is at c.requires.fits in
    let there = read_there c.args.layer.now.items.items c.in-Move.k _ (has_place (IsMovableDrillItem (way c.in-Move.dx c.in-Move.dy)) c.args.layer.now.items.items c.in-Move.k fits.1) c.index_mut.ensures.value in
    let by = way c.in-Move.dx c.in-Move.dy in
    let shifted = c.shift.ensures
    ∙ ap (λ (w : Point). shifted_drill_item w c.index_mut.result.now) (c.way.ensures ∙ way_is c.in-Move.dx c.in-Move.dy fits.0) in
    rw c.in-Move.is (ap (λ (items : List DrillItem). record (drill_content_of c.args.layer.now) { items = items }) (set_is_changed _ _ _ there (shifted_drill_item by) _ shifted))

pub returns-in-Reorder-clause-answer : goal.returns-in-Reorder-clause-answer
returns-in-Reorder-clause-answer c = rw c.in-Reorder.is refl

pub returns-in-Tool-clause-content : goal.returns-in-Tool-clause-content
returns-in-Tool-clause-content c = grind (arith, read_there, set_is_changed)

pub returns-in-Tool-clause-answer : goal.returns-in-Tool-clause-answer
returns-in-Tool-clause-answer c = grind (arith, read_there)

pub returns-in-Move-clause-answer : goal.returns-in-Move-clause-answer
returns-in-Move-clause-answer c = search rules

pub returns-in-Reorder-clause-room : goal.returns-in-Reorder-clause-room
returns-in-Reorder-clause-room c = grind (arith, common_steps)

pub returns-in-Reorder-clause-content : goal.returns-in-Reorder-clause-content
returns-in-Reorder-clause-content c = grind (arith, common_steps)
