use Rattle.std.proofs.Common.{◌∙◌, ap, length, refl, subst, arith, List}
use Rattle.std.proofs.lemmas.Grind.{common_steps}
use Rattle.cam_objects.specs.declared.attribute.Attribute.{Attribute}
use Rattle.cam_objects.specs.declared.item.Item.{Item}
use Rattle.cam_units.specs.declared.point.Point.{Point}
use Rattle.cam_objects.specs.Shifting.{shifted_item}
use Rattle.cam_edits.specs.Moving.{IsMovableItem, way}
use Rattle.cam_edits.proofs.ReadItems.{has_place, negated_fits, negated_is, read_there, set_is_changed, told_there, way_is}
use Rattle.std.proofs.lemmas.List.{length-set}
use Rattle.std.proofs.lemmas.List.Edits.{length-insert}
use Rattle.cam_objects.specs.Contents.{content_of}
use Rattle.cam_edits.specs.Steps.{IsFit}
use Rattle.cam_edits.proofs.LedBack.{aperture_led_back, polarity_led_back}
use Rattle.cam_edits.proofs.RoomLeft.{attributes_left, items_left}
use Rattle.cam_edits.proofs.step.StepReversible.play.Goals as goal

pub returns-in-Insert-clause-room : goal.returns-in-Insert-clause-room
returns-in-Insert-clause-room c = λ rest room.
    let fits = subst (λ s. IsFit s (content_of c.args.layer.now)) c.in-Insert.is c.requires.fits in
    (items_left rest c.args.self c.args.layer.now room _ c.in-Insert.is _ _ (omega (arith, length-insert c.args.layer.now.items.items c.in-Insert.k c.in-Insert.item fits, ap length c.put.ensures.items)) (omega (arith, c.put.ensures.room)), attributes_left rest c.args.self c.args.layer.now room _ c.in-Insert.is _ _ (omega arith) (omega arith))

pub returns-in-Delete-clause-room : goal.returns-in-Delete-clause-room
returns-in-Delete-clause-room c = λ rest room.
    (items_left rest c.args.self c.args.layer.now room _ c.in-Delete.is _ _ (omega (arith, c.remove.ensures.len, c.remove.new.self.ok.0, c.args.layer.now.items.ok.0)) (omega (arith, c.remove.ensures.capacity)), attributes_left rest c.args.self c.args.layer.now room _ c.in-Delete.is _ _ (omega arith) (omega arith))

pub returns-in-Move-clause-room : goal.returns-in-Move-clause-room
returns-in-Move-clause-room c = λ rest room.
    (items_left rest c.args.self c.args.layer.now room _ c.in-Move.is _ _ (omega (arith, length-set c.args.layer.now.items.items c.in-Move.k c.shift.new.self)) (omega arith), attributes_left rest c.args.self c.args.layer.now room _ c.in-Move.is _ _ (omega arith) (omega arith))

pub returns-in-Aperture-clause-room : goal.returns-in-Aperture-clause-room
returns-in-Aperture-clause-room c = λ rest room.
    (items_left rest c.args.self c.args.layer.now room _ c.in-Aperture.is _ _ (omega (arith, length-set c.args.layer.now.items.items c.in-Aperture.k c.set_aperture-n.new.item)) (omega arith), attributes_left rest c.args.self c.args.layer.now room _ c.in-Aperture.is _ _ (omega arith) (omega arith))

pub returns-in-Polarity-clause-room : goal.returns-in-Polarity-clause-room
returns-in-Polarity-clause-room c = λ rest room.
    (items_left rest c.args.self c.args.layer.now room _ c.in-Polarity.is _ _ (omega (arith, length-set c.args.layer.now.items.items c.in-Polarity.k c.set_polarity-dark.new.item)) (omega arith), attributes_left rest c.args.self c.args.layer.now room _ c.in-Polarity.is _ _ (omega arith) (omega arith))

pub returns-in-PutAttribute-clause-room : goal.returns-in-PutAttribute-clause-room
returns-in-PutAttribute-clause-room c = λ rest room.
    let fits = subst (λ s. IsFit s (content_of c.args.layer.now)) c.in-PutAttribute.is c.requires.fits in
    (items_left rest c.args.self c.args.layer.now room _ c.in-PutAttribute.is _ _ (omega arith) (omega arith), attributes_left rest c.args.self c.args.layer.now room _ c.in-PutAttribute.is _ _ (omega (arith, length-insert c.args.layer.now.attributes.items c.in-PutAttribute.k c.in-PutAttribute.attribute fits, ap length c.put-in-PutAttribute.ensures.items)) (omega (arith, c.put-in-PutAttribute.ensures.room)))

pub returns-in-TakeAttribute-clause-room : goal.returns-in-TakeAttribute-clause-room
returns-in-TakeAttribute-clause-room c = λ rest room.
    (items_left rest c.args.self c.args.layer.now room _ c.in-TakeAttribute.is _ _ (omega arith) (omega arith), attributes_left rest c.args.self c.args.layer.now room _ c.in-TakeAttribute.is _ _ (omega (arith, c.remove-in-TakeAttribute.ensures.len, c.remove-in-TakeAttribute.new.self.ok.0, c.args.layer.now.attributes.ok.0)) (omega (arith, c.remove-in-TakeAttribute.ensures.capacity)))

pub put-requires-clause-place : goal.put-requires-clause-place
put-requires-clause-place c = rw c.in-Insert.is at c.requires.fits

pub remove-requires : goal.remove-requires
remove-requires c = let fits = rw c.in-Delete.is at c.requires.fits in omega (arith, fits, c.args.layer.now.items.ok.0)

pub index_mut-requires : goal.index_mut-requires
index_mut-requires c = grind (arith, has_place)

pub overflow_sub-result : goal.overflow_sub-result
overflow_sub-result c = let fits = rw c.in-Move.is at c.requires.fits in negated_fits c.in-Move.dx fits.0.x

pub overflow_sub-result-in-Move : goal.overflow_sub-result-in-Move
overflow_sub-result-in-Move c = let fits = rw c.in-Move.is at c.requires.fits in negated_fits c.in-Move.dy fits.0.y

pub index_mut-requires-in-Aperture : goal.index_mut-requires-in-Aperture
index_mut-requires-in-Aperture c = grind (arith, has_place)

pub set_aperture-n-requires : goal.set_aperture-n-requires
set_aperture-n-requires c = grind (arith, read_there, has_place, told_there)

pub index_mut-requires-in-Polarity : goal.index_mut-requires-in-Polarity
index_mut-requires-in-Polarity c = grind (arith, has_place)

pub set_polarity-dark-requires : goal.set_polarity-dark-requires
set_polarity-dark-requires c = grind (arith, read_there, has_place, told_there)

pub put-requires-in-PutAttribute-clause-place : goal.put-requires-in-PutAttribute-clause-place
put-requires-in-PutAttribute-clause-place c = rw c.in-PutAttribute.is at c.requires.fits

pub returns-in-Insert-clause-answer : goal.returns-in-Insert-clause-answer
returns-in-Insert-clause-answer c = rw c.in-Insert.is refl

pub returns-in-Delete-clause-answer : goal.returns-in-Delete-clause-answer
returns-in-Delete-clause-answer c = grind (arith, read_there)

pub returns-in-Move-clause-content : goal.returns-in-Move-clause-content
returns-in-Move-clause-content c =
    let fits = rw c.in-Move.is at c.requires.fits in
    let there = read_there c.args.layer.now.items.items c.in-Move.k _ (has_place (IsMovableItem (way c.in-Move.dx c.in-Move.dy)) c.args.layer.now.items.items c.in-Move.k fits.1) c.index_mut.ensures.value in
    let by = way c.in-Move.dx c.in-Move.dy in
    let shifted = c.shift.ensures
    ∙ ap (λ (w : Point). shifted_item w c.index_mut.result.now) (c.way.ensures ∙ way_is c.in-Move.dx c.in-Move.dy fits.0) in
    rw c.in-Move.is (ap (λ (items : List Item). record (content_of c.args.layer.now) { items = items }) (set_is_changed _ _ _ there (shifted_item by) _ shifted))

pub returns-in-Reorder-clause-answer : goal.returns-in-Reorder-clause-answer
returns-in-Reorder-clause-answer c = rw c.in-Reorder.is refl

pub returns-in-Aperture-clause-content : goal.returns-in-Aperture-clause-content
returns-in-Aperture-clause-content c = grind (arith, read_there, has_place, set_is_changed)

pub returns-in-Polarity-clause-content : goal.returns-in-Polarity-clause-content
returns-in-Polarity-clause-content c = grind (arith, read_there, has_place, set_is_changed)

pub returns-in-PutAttribute-clause-answer : goal.returns-in-PutAttribute-clause-answer
returns-in-PutAttribute-clause-answer c = rw c.in-PutAttribute.is refl

pub returns-in-TakeAttribute-clause-answer : goal.returns-in-TakeAttribute-clause-answer
returns-in-TakeAttribute-clause-answer c = grind (arith, read_there)

pub returns-in-Aperture-clause-answer : goal.returns-in-Aperture-clause-answer
returns-in-Aperture-clause-answer c = grind (arith, read_there, has_place, aperture_led_back)

pub returns-in-Polarity-clause-answer : goal.returns-in-Polarity-clause-answer
returns-in-Polarity-clause-answer c = grind (arith, read_there, has_place, polarity_led_back)

pub returns-in-SetFields-clause-content : goal.returns-in-SetFields-clause-content
returns-in-SetFields-clause-content c = grind (arith, read_there, set_is_changed)

pub returns-in-SetFields-clause-answer : goal.returns-in-SetFields-clause-answer
returns-in-SetFields-clause-answer c = grind (arith, read_there)

pub returns-in-Insert-clause-content : goal.returns-in-Insert-clause-content
returns-in-Insert-clause-content c =
    rw c.in-Insert.is (ap (λ (items : List Item). record (content_of c.args.layer.now) { items = items }) c.put.ensures.items)

pub returns-in-Delete-clause-content : goal.returns-in-Delete-clause-content
returns-in-Delete-clause-content c =
    rw c.in-Delete.is (ap (λ (items : List Item). record (content_of c.args.layer.now) { items = items }) c.remove.ensures.items)

pub returns-in-Move-clause-answer : goal.returns-in-Move-clause-answer
returns-in-Move-clause-answer c =
    let fits = rw c.in-Move.is at c.requires.fits in
    rw (c.in-Move.is, negated_is c.in-Move.dx fits.0.x, negated_is c.in-Move.dy fits.0.y) refl

pub returns-in-PutAttribute-clause-content : goal.returns-in-PutAttribute-clause-content
returns-in-PutAttribute-clause-content c =
    rw c.in-PutAttribute.is (ap (λ (attributes : List Attribute). record (content_of c.args.layer.now) { attributes = attributes }) c.put-in-PutAttribute.ensures.items)

pub returns-in-TakeAttribute-clause-content : goal.returns-in-TakeAttribute-clause-content
returns-in-TakeAttribute-clause-content c =
    rw c.in-TakeAttribute.is (ap (λ (attributes : List Attribute). record (content_of c.args.layer.now) { attributes = attributes }) c.remove-in-TakeAttribute.ensures.items)

pub returns-in-Reorder-clause-room : goal.returns-in-Reorder-clause-room
returns-in-Reorder-clause-room c = grind (arith, common_steps)

pub returns-in-SetFields-clause-room : goal.returns-in-SetFields-clause-room
returns-in-SetFields-clause-room c = grind (arith, common_steps)

pub returns-in-Reorder-clause-content : goal.returns-in-Reorder-clause-content
returns-in-Reorder-clause-content c = grind (arith, common_steps)
