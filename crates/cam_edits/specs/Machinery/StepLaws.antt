use Rattle.std.specs.Prelude.{◌≡◌, ℕ, ◌<◌, ◌≤◌, Option, Bool, cond, List, [], ◌∷◌, ◌++◌, length, Some, remove}
use Rattle.std.specs.Prelude.{slice_get}
use Rattle.std.proofs.Common.{refl, ap, sym, subst, ◌∙◌, arith}
use Rattle.std.proofs.lemmas.List.Edits.{length-insert, length-remove}
use Rattle.std.proofs.lemmas.List.Sums.{sum_by-append}
use Rattle.cam_units.specs.declared.point.Point.{Point}
use Rattle.cam_objects.specs.Contents.{Content}
use Rattle.cam_objects.specs.Shifting.{shifted_item}
use Rattle.cam_objects.specs.declared.attribute.Attribute.{Attribute}
use Rattle.cam_objects.specs.declared.object.Object.{Object}
use Rattle.cam_objects.specs.declared.object.Object.TheVariants.{Flash, Draw, Arc, Region}
use Rattle.cam_objects.specs.declared.item.Item.{Item}
use Rattle.cam_objects.specs.declared.item.Item.TheVariants.{One, Repeat}
use Rattle.cam_objects.specs.declared.layer.Layer.{Layer}
use Rattle.cam_edits.specs.declared.step.Step.{Step}
use Rattle.cam_edits.specs.declared.step.Step.TheVariants.{Insert, Delete, Move, Reorder, Aperture, Polarity}
use Rattle.cam_edits.specs.declared.step.Step.TheVariants.{PutAttribute, TakeAttribute, SetFields}
use Rattle.cam_edits.specs.Moving.{IsMovableItem, way}
use Rattle.cam_edits.specs.Machinery.MovingLaws.{item_back, movable_item, negated, negated_twice, shiftable_negated}
use Rattle.cam_edits.specs.Machinery.PlaceLaws.{changed_back, element_at, found, get_changed, get_inserted, has_changed}
use Rattle.cam_edits.specs.Machinery.PlaceLaws.{insert_removed, length_changed, length_reordered, remove_inserted}
use Rattle.cam_edits.specs.Machinery.PlaceLaws.{reordered_back}
use Rattle.cam_edits.specs.Places.{HasAt, changed}
use Rattle.cam_edits.specs.Steps.{HasAperture, HasRoom, IsFit, IsOne, after_step, aperture_of, inverse_at, inverse_step}
use Rattle.cam_edits.specs.Steps.{is_insertion, polarity_of, puts_attribute, step_place, with_aperture, with_fields}
use Rattle.cam_edits.specs.Steps.{with_object, with_polarity}

-- ---- apertures and polarities that are set and set back
has_aperture : (n : ℕ) (object : Object) → HasAperture object → HasAperture (with_aperture n object)
has_aperture n (Flash m at t dark) h = tt
has_aperture n (Draw m from to t dark) h = tt
has_aperture n (Arc ccw dark m from to centre) h = tt
has_aperture n (Region contour dark) h = h

aperture_back : (n : ℕ) (object : Object) → with_aperture (aperture_of object) (with_aperture n object) ≡ object
aperture_back n (Flash m at t dark) = refl
aperture_back n (Draw m from to t dark) = refl
aperture_back n (Arc ccw dark m from to centre) = refl
aperture_back n (Region contour dark) = refl

aperture_set : (n : ℕ) (object : Object) → HasAperture object → aperture_of (with_aperture n object) ≡ n
aperture_set n (Flash m at t dark) h = refl
aperture_set n (Draw m from to t dark) h = refl
aperture_set n (Arc ccw dark m from to centre) h = refl
aperture_set n (Region contour dark) h = absurd h

polarity_back : (dark : Bool) (object : Object)
    → with_polarity (polarity_of object) (with_polarity dark object) ≡ object
polarity_back b (Flash m at t dark) = refl
polarity_back b (Draw m from to t dark) = refl
polarity_back b (Arc ccw dark m from to centre) = refl
polarity_back b (Region contour dark) = refl

polarity_set : (dark : Bool) (object : Object) → polarity_of (with_polarity dark object) ≡ dark
polarity_set b (Flash m at t dark) = refl
polarity_set b (Draw m from to t dark) = refl
polarity_set b (Arc ccw dark m from to centre) = refl
polarity_set b (Region contour dark) = refl

-- the object of an item that is one
object_of : (P : Object → Type 0) (item : Item) → IsOne P item → (object : Object) × (item ≡ One object) × P object
object_of P (One object) h = (object, refl, h)
object_of P (Repeat columns rows i j objects) h = absurd h

one_at : (P : Object → Type 0) (items : List Item) (k : ℕ) → HasAt (IsOne P) items k
    → (object : Object) × (slice_get items k ≡ Some (One object)) × P object
one_at P items k h =
    let f = found (IsOne P) items k h in let o = object_of P f.0 f.2 in (o.0, f.1 ∙ ap Some o.1, o.2)

module _ (c : Content) where
  -- the step that leads back, where that is told by the item, or by the attribute
  abbrev by_item : Step → Option Item → Step
  by_item step before = inverse_at step before (slice_get c.attributes (step_place step))

  abbrev by_attribute : Step → Option Attribute → Step
  by_attribute step held = inverse_at step (slice_get c.items (step_place step)) held

  -- ---- the answer fits
  fits_back : (step : Step) → IsFit step c → IsFit (inverse_step step c) (after_step step c)
  fits_back (Insert k item) h = let n = length-insert c.items k item h in omega arith
  fits_back (Delete k) h =
      let e = (element_at c.items k h).1 in
      let n = length-remove c.items k h in
      let le : k ≤ length (remove c.items k) = omega arith in
      rw e le
  fits_back (Move k dx dy) h =
      let f = found (IsMovableItem (way dx dy)) c.items k h.1 in (
        shiftable_negated (way dx dy) h.0,
        has_changed c.items k f.0 f.1 (IsMovableItem (negated (way dx dy))) (shifted_item (way dx dy)) (movable_item (way dx dy) f.0 f.2),
      )
  fits_back (Reorder k m) h =
      let e = element_at c.items k h.0 in
      let n = length_reordered c.items k e.0 e.1 m h.1 in
      (omega (arith, h.1), omega (arith, h.0))
  fits_back (Aperture k n) h =
      let o = one_at HasAperture c.items k h in
      let f = with_object (with_aperture n) in
      subst (λ (s : Step). IsFit s (after_step (Aperture k n) c)) (sym (ap (by_item (Aperture k n)) o.1))
      (has_changed c.items k (One o.0) o.1 (IsOne HasAperture) f (has_aperture n o.0 o.2))
  fits_back (Polarity k dark) h =
      let o = one_at (λ _. Unit {0}) c.items k h in
      let f = with_object (with_polarity dark) in
      subst (λ (s : Step). IsFit s (after_step (Polarity k dark) c)) (sym (ap (by_item (Polarity k dark)) o.1))
      (has_changed c.items k (One o.0) o.1 (IsOne (λ _. Unit {0})) f tt)
  fits_back (PutAttribute k a) h = let n = length-insert c.attributes k a h in omega arith
  fits_back (TakeAttribute k) h =
      let e = (element_at c.attributes k h).1 in
      let n = length-remove c.attributes k h in
      let le : k ≤ length (remove c.attributes k) = omega arith in
      rw e le
  fits_back (SetFields k fields) h =
      let e = element_at c.attributes k h in
      let n = length_changed c.attributes k e.0 e.1 (with_fields fields) in
      let lt : k < length (changed (with_fields fields) c.attributes k) = omega (arith, n, h) in
      subst (λ (s : Step). IsFit s (after_step (SetFields k fields) c))
      (sym (ap (by_attribute (SetFields k fields)) e.1)) lt

  -- ---- it gives back the content
  abbrev with_items : List Item → Content
  with_items items = record { attributes = c.attributes; entries = c.entries; items = items }

  abbrev with_attributes : List Attribute → Content
  with_attributes attributes = record { attributes = attributes; entries = c.entries; items = c.items }

  abbrev then_step : Step → Step → Content
  then_step step next = after_step next (after_step step c)

  content_back : (step : Step) → IsFit step c → then_step step (inverse_step step c) ≡ c
  content_back (Insert k item) h = ap with_items (remove_inserted c.items k item h)
  content_back (Delete k) h =
      let e = element_at c.items k h in
      ap (then_step (Delete k)) (ap (by_item (Delete k)) e.1) ∙ ap with_items (insert_removed c.items k e.0 e.1)
  content_back (Move k dx dy) h =
      let f = found (IsMovableItem (way dx dy)) c.items k h.1 in
      ap with_items
      (changed_back c.items k f.0 f.1 (shifted_item (way dx dy)) (shifted_item (negated (way dx dy))) (item_back (way dx dy) f.0))
  content_back (Reorder k m) h =
      let e = element_at c.items k h.0 in ap with_items (reordered_back c.items k e.0 e.1 m h.1)
  content_back (Aperture k n) h =
      let o = one_at HasAperture c.items k h in
      let f = with_object (with_aperture n) in
      ap (then_step (Aperture k n)) (ap (by_item (Aperture k n)) o.1)
      ∙ ap with_items
      (changed_back c.items k (One o.0) o.1 f (with_object (with_aperture (aperture_of o.0)))
      (ap One (aperture_back n o.0)))
  content_back (Polarity k dark) h =
      let o = one_at (λ _. Unit {0}) c.items k h in
      let f = with_object (with_polarity dark) in
      ap (then_step (Polarity k dark)) (ap (by_item (Polarity k dark)) o.1)
      ∙ ap with_items
      (changed_back c.items k (One o.0) o.1 f (with_object (with_polarity (polarity_of o.0)))
      (ap One (polarity_back dark o.0)))
  content_back (PutAttribute k a) h = ap with_attributes (remove_inserted c.attributes k a h)
  content_back (TakeAttribute k) h =
      let e = element_at c.attributes k h in
      ap (then_step (TakeAttribute k)) (ap (by_attribute (TakeAttribute k)) e.1)
      ∙ ap with_attributes (insert_removed c.attributes k e.0 e.1)
  content_back (SetFields k fields) h =
      let e = element_at c.attributes k h in
      ap (then_step (SetFields k fields)) (ap (by_attribute (SetFields k fields)) e.1)
      ∙ ap with_attributes
      (changed_back c.attributes k e.0 e.1 (with_fields fields) (with_fields e.0.fields) refl)

  -- ---- and its own answer is the step
  abbrev again : Step → Step → Step
  again step answer = inverse_step answer (after_step step c)

  step_back : (step : Step) → IsFit step c → again step (inverse_step step c) ≡ step
  step_back (Insert k item) h = ap (by_item (Delete k)) (get_inserted c.items k item h)
  step_back (Delete k) h =
      let e = element_at c.items k h in ap (again (Delete k)) (ap (by_item (Delete k)) e.1)
  step_back (Move k dx dy) h = ap (λ (by : Point). Move k by.x by.y) (negated_twice (way dx dy))
  step_back (Reorder k m) h = refl
  step_back (Aperture k n) h =
      let o = one_at HasAperture c.items k h in
      let f = with_object (with_aperture n) in
      ap (again (Aperture k n)) (ap (by_item (Aperture k n)) o.1)
      ∙ (ap (by_item (Aperture k (aperture_of o.0))) (get_changed c.items k (One o.0) o.1 f)
      ∙ ap (Aperture k) (aperture_set n o.0 o.2))
  step_back (Polarity k dark) h =
      let o = one_at (λ _. Unit {0}) c.items k h in
      let f = with_object (with_polarity dark) in
      ap (again (Polarity k dark)) (ap (by_item (Polarity k dark)) o.1)
      ∙ (ap (by_item (Polarity k (polarity_of o.0))) (get_changed c.items k (One o.0) o.1 f)
      ∙ ap (Polarity k) (polarity_set dark o.0))
  step_back (PutAttribute k a) h = ap (by_attribute (TakeAttribute k)) (get_inserted c.attributes k a h)
  step_back (TakeAttribute k) h =
      let e = element_at c.attributes k h in ap (again (TakeAttribute k)) (ap (by_attribute (TakeAttribute k)) e.1)
  step_back (SetFields k fields) h =
      let e = element_at c.attributes k h in
      ap (again (SetFields k fields)) (ap (by_attribute (SetFields k fields)) e.1)
      ∙ ap (by_attribute (SetFields k e.0.fields)) (get_changed c.attributes k e.0 e.1 (with_fields fields))

pub answer_fits : (step : Step) (c : Content) → IsFit step c → IsFit (inverse_step step c) (after_step step c)
answer_fits step c h = fits_back c step h

pub gives_back_content : (step : Step) (c : Content) → IsFit step c
    → after_step (inverse_step step c) (after_step step c) ≡ c
gives_back_content step c h = content_back c step h

pub gives_back_step : (step : Step) (c : Content) → IsFit step c
    → inverse_step (inverse_step step c) (after_step step c) ≡ step
gives_back_step step c h = step_back c step h

-- ---- room
pub last_has_room : (rest : List Step) (step : Step) (layer : Layer)
    → HasRoom (rest ++ step ∷ []) layer → HasRoom (step ∷ []) layer
last_has_room rest step layer h =
    let items = sum_by-append (λ (s : Step). cond (is_insertion s) 1 0) rest (step ∷ []) in
    let names = sum_by-append (λ (s : Step). cond (puts_attribute s) 1 0) rest (step ∷ []) in
    (omega (arith, items, h.0), omega (arith, names, h.1))
