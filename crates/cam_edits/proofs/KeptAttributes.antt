-- Whether the attributes of a layer are sound after a step that brings one: where that may be put there, and only there.
use Rattle.std.proofs.Common.{◌≡◌, ℕ, suc, ◌+◌, ◌<◌, ◌≤◌, Bool, true, false, List, [], ◌∷◌, ◌++◌, length, get_or, take, drop}
use Rattle.std.proofs.Common.{Option, None, Some, refl, sym, ap, subst, ◌∙◌, ◌↔◌, ⊎_elim, arith}
use Rattle.std.specs.Prelude.{insert, slice_get}
use Rattle.std.specs.List.{IsDistinct}
use Rattle.std.specs.Str.{bytes_eq}
use Rattle.std.proofs.lemmas.Bool.{cases_lt, false≢true}
use Rattle.std.proofs.lemmas.List.{get_or-map, length-map, take-append-drop}
use Rattle.std.proofs.lemmas.List.Edits.{get_or-insert_above, get_or-insert_at, get_or-insert_below, length-insert}
use Rattle.std.proofs.lemmas.List.Quantifiers.{position-Some}
use Rattle.std.proofs.lemmas.Map.Keys.{apart_from_distinct}
use Rattle.cam_objects.specs.Attributes.{AreAttributes, IsAttribute, attribute_place, has_name, names_of}
use Rattle.cam_objects.specs.Contents.{Content}
use Rattle.cam_objects.specs.declared.attribute.Attribute.{Attribute}
use Rattle.cam_objects.proofs.EditedAttributes.{attribute_edits, flipped, room_added}
use Rattle.cam_edits.specs.Machinery.Judging.{MayPut}
use Rattle.cam_edits.specs.declared.step.Step.{Step}
use Rattle.cam_edits.specs.declared.step.Step.TheVariants.{Insert, Delete, Move, Reorder, Aperture, Polarity}
use Rattle.cam_edits.specs.declared.step.Step.TheVariants.{PutAttribute, TakeAttribute, SetFields}
use Rattle.cam_edits.specs.Machinery.PlaceLaws.{changed_is, element_at, get_changed, get_inserted, within}
use Rattle.cam_edits.specs.Places.{changed}
use Rattle.cam_edits.specs.Steps.{IsFit, attributes_after, with_fields}
use Rattle.cam_edits.proofs.EditedLists.{all_here, set_here, split_here}
use Rattle.cam_edits.proofs.SoundAttributes.{taken_sound}

-- ---- an attribute that is put among others

module _ (xs : List Attribute) (k : ℕ) (a : Attribute) (fit : k ≤ length xs) where
  abbrev with_it : List Attribute
  with_it = insert xs k a

  module _ (distinct : IsDistinct bytes_eq (names_of with_it)) where
    -- two names that stand at different places differ
    apart : (i j : ℕ) → i < j → j < length with_it → bytes_eq (get_or with_it i a).name (get_or with_it j a).name ≡ false
    apart i j low high =
        let name : Attribute → List ℕ = λ b. b.name in
        let far = apart_from_distinct bytes_eq (names_of with_it) i j a.name distinct low
        (subst (λ n. j < n) (sym (length-map with_it name)) high) in
        subst (λ it. bytes_eq it (get_or with_it j a).name ≡ false) (get_or-map name with_it i a a.name (omega arith))
        (subst (λ it. bytes_eq (get_or (names_of with_it) i a.name) it ≡ false) (get_or-map name with_it j a a.name high) far)

    -- so none of the others has its name
    before_it : (j : ℕ) → j < k → has_name a.name (get_or xs j a) ≡ false
    before_it j low =
        subst (λ (b : Attribute). has_name b.name (get_or xs j a) ≡ false) (get_or-insert_at xs k a a fit)
        (subst (λ (b : Attribute). has_name (get_or with_it k a).name b ≡ false) (get_or-insert_below xs k a a j low fit)
        (apart j k low (omega (arith, length-insert xs k a fit))))

    after_it : (j : ℕ) → k ≤ j → j < length xs → has_name a.name (get_or xs j a) ≡ false
    after_it j high less =
        flipped a.name (get_or xs j a).name
        (subst (λ (b : Attribute). bytes_eq b.name (get_or xs j a).name ≡ false) (get_or-insert_at xs k a a fit)
        (subst (λ (b : Attribute). bytes_eq (get_or with_it k a).name b.name ≡ false) (get_or-insert_above xs k a a j high fit)
        (apart k (j + 1) (omega arith) (omega (arith, length-insert xs k a fit)))))

    unnamed_at : (o : Option ℕ) → attribute_place a.name xs ≡ o → o ≡ None
    unnamed_at None e = refl
    unnamed_at (Some j) e =
        let there = position-Some (has_name a.name) xs j a e in
        absurd (⊎_elim (λ low. false≢true (sym (before_it j low) ∙ there.1)) (λ high. false≢true (sym (after_it j high there.0) ∙ there.1))
        (cases_lt j k))

  pub put_sound : AreAttributes xs → MayPut xs a ↔ AreAttributes with_it
  put_sound h = (to, from) where
    to : MayPut xs a → AreAttributes with_it
    to may =
        let whole = take-append-drop k xs in
        attribute_edits.insert (take k xs) (drop k xs) a (subst AreAttributes (sym whole) h) may.set.sound
        (subst (λ l. attribute_place a.name l ≡ None) (sym whole) may.absent)
        (subst (λ l. length l < 1000) (sym whole) (grind (arith, room_added)))

    from : AreAttributes with_it → MayPut xs a
    from after =
        let absent = unnamed_at after.distinct (attribute_place a.name xs) refl in record {
          absent = absent;
          set = record {
            sound = all_here IsAttribute with_it k a after.each (get_inserted xs k a fit);
            room = omega (arith, after.few, room_added a xs absent, length-insert xs k a fit);
          };
        }

-- ---- fields that are set

module _ (xs : List Attribute) (k : ℕ) (a : Attribute) (here : slice_get xs k ≡ Some a) (fields : List ℕ) where
  abbrev new : Attribute
  new = with_fields fields a

  pub refilled_sound : AreAttributes xs → IsAttribute new ↔ AreAttributes (changed (with_fields fields) xs k)
  refilled_sound h = (to, from) where
    to : IsAttribute new → AreAttributes (changed (with_fields fields) xs k)
    to sound =
        subst AreAttributes (sym (changed_is xs k a here (with_fields fields) ∙ set_here xs k new (within xs k a here)))
        (attribute_edits.refill (take k xs) (drop (suc k) xs) a new (subst AreAttributes (split_here xs k a here) h) sound refl)

    from : AreAttributes (changed (with_fields fields) xs k) → IsAttribute new
    from after =
        all_here IsAttribute (changed (with_fields fields) xs k) k new after.each (get_changed xs k a here (with_fields fields))

-- ---- steps that bring none

pub others_sound : (c : Content) (step : Step) → IsFit step c → AreAttributes c.attributes
    → ((k : ℕ) (a : Attribute) → step ≡ PutAttribute k a → ⊥) → ((k : ℕ) (fields : List ℕ) → step ≡ SetFields k fields → ⊥)
    → AreAttributes (attributes_after step c.attributes)
others_sound c (Insert k item) fit h puts sets = h
others_sound c (Delete k) fit h puts sets = h
others_sound c (Move k dx dy) fit h puts sets = h
others_sound c (Reorder k m) fit h puts sets = h
others_sound c (Aperture k n) fit h puts sets = h
others_sound c (Polarity k dark) fit h puts sets = h
others_sound c (PutAttribute k a) fit h puts sets = absurd (puts k a refl)
others_sound c (TakeAttribute k) fit h puts sets =
    let there = element_at c.attributes k fit in taken_sound c.attributes h k there.0 there.1
others_sound c (SetFields k fields) fit h puts sets = absurd (sets k fields refl)
