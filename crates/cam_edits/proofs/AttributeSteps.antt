-- The steps of edits of attributes: they fit, and make of the attributes what the edits say.
use Rattle.std.proofs.Common.{◌≡◌, ℕ, ◌<◌, ◌≤◌, Bool, true, ◌&&◌, not, nat_le, ◌+◌, List, [], ◌∷◌, length, get_or}
use Rattle.std.proofs.Common.{Option, None, Some, Result, Ok, Err, refl, sym, subst, arith}
use Rattle.std.specs.Prelude.{is_none, slice_get}
use Rattle.std.specs.Option.{option_map}
use Rattle.std.proofs.lemmas.Bool.{false_from_ne_true, le-leb, leb-true}
use Rattle.std.proofs.lemmas.List.Edits.{insert_end}
use Rattle.std.proofs.lemmas.List.Quantifiers.{position-Some}
use Rattle.std.proofs.lemmas.Option.{get_or_from_slice_get}
use Rattle.std.proofs.lemmas.Slice.Eq.{bytes_eq-Decides}
use Rattle.cam_objects.specs.Attributes.{AreAttributes, attribute_of, has_name, attribute_place, with_attribute}
use Rattle.cam_objects.specs.Contents.{Content}
use Rattle.cam_refusals.specs.Checks.{first_holding}
use Rattle.cam_refusals.specs.Limits.{attribute_limit}
use Rattle.cam_objects.specs.declared.attribute.Attribute.{Attribute}
use Rattle.cam_objects.proofs.EditedAttributes.{added_last, kept_place, room_added, room_kept}
use Rattle.cam_edits.specs.declared.edit.Change.TheVariants.{SetAttribute, DropAttribute}
use Rattle.cam_edits.specs.declared.fault.EditFault.{EditFault}
use Rattle.cam_edits.specs.declared.fault.EditFault.TheVariants.{AttributeRefused, NoAttribute, TooMuch}
use Rattle.cam_edits.specs.declared.step.Step.{Step}
use Rattle.cam_edits.specs.declared.step.Step.TheVariants.{PutAttribute, TakeAttribute, SetFields}
use Rattle.cam_edits.specs.AttributeEdits.{are_fields, is_key, setting_step}
use Rattle.cam_edits.specs.Editing.{judged, judged_change, judged_unless, step_checks}
use Rattle.cam_edits.specs.Machinery.PlaceLaws.{element_at}
use Rattle.cam_edits.specs.Steps.{attributes_after}

-- ---- where a name stands

module _ (name : List ℕ) (xs : List Attribute) (k : ℕ) (here : attribute_place name xs ≡ Some k) where
  pub within : k < length xs
  within = (position-Some (has_name name) xs k (attribute_of [] []) here).0

  pub named : (a : Attribute) × (slice_get xs k ≡ Some a) × (a.name ≡ name)
  named =
      let at = element_at xs k within in
      let told = (position-Some (has_name name) xs k at.0 here).1 in
      let is : get_or xs k at.0 ≡ at.0 = get_or_from_slice_get xs k at.0 at.0 at.1 in
      (at.0, at.1, (bytes_eq-Decides at.0.name name).0 (subst (λ (a : Attribute). has_name name a ≡ true) is told))

-- ---- one that is set

module _ (xs : List Attribute) (key fields : List ℕ) where
  abbrev new : Attribute
  new = attribute_of key fields

  abbrev step_at : Option ℕ → Step
  step_at place = setting_step key fields (length xs) place

  pub after_setting_at : (place : Option ℕ) → attribute_place key xs ≡ place → attributes_after (step_at place) xs ≡ with_attribute new xs
  after_setting_at place e = grind (arith, insert_end, added_last, named, kept_place)

  pub after_setting : attributes_after (step_at (attribute_place key xs)) xs ≡ with_attribute new xs
  after_setting = after_setting_at (attribute_place key xs) refl

  pub one_more : attribute_place key xs ≡ None → length (with_attribute new xs) ≡ length xs + 1
  one_more e = room_added new xs e

  pub as_many : (k : ℕ) → attribute_place key xs ≡ Some k → length (with_attribute new xs) ≡ length xs
  as_many k e = room_kept new xs k e

-- ---- judgements

module _ (c : Content) (key fields : List ℕ) where
  abbrev set_step : Option ℕ → Step
  set_step place = setting_step key fields (length c.attributes) place

  abbrev has_room : Bool
  has_room = nat_le (length (with_attribute (attribute_of key fields) c.attributes)) attribute_limit

  abbrev told : Bool → Bool → Bool → Result Step EditFault
  told named written room =
      judged_unless c (first_holding ((AttributeRefused, not (named && written)) ∷ (TooMuch, not room) ∷ []))
      (Some (set_step (attribute_place key c.attributes)))

  module _ (good : is_key key ≡ true) where
    module _ (written : are_fields fields ≡ true) where
      by_room : (room : Bool) → has_room ≡ room → judged_change c (SetAttribute key fields) ≡ told true true room
      by_room room e = grind (arith, named)

      made : (place : Option ℕ) → judged c (Some (set_step place)) ≡ Ok (set_step place)
      unfolding step_checks
      made place = grind arith

      judged_with : has_room ≡ true → (place : Option ℕ) → place ≡ attribute_place key c.attributes
          → Ok (set_step place) ≡ judged_change c (SetAttribute key fields)
      judged_with room place at = grind (arith, by_room, made)

      pub filled : (k : ℕ) → Some k ≡ attribute_place key c.attributes → AreAttributes c.attributes
          → Ok (SetFields k fields) ≡ judged_change c (SetAttribute key fields)
      filled k at h = grind (arith, as_many, judged_with, le-leb)

      module _ (at : None ≡ attribute_place key c.attributes) where
        more : length (with_attribute (attribute_of key fields) c.attributes) ≡ length c.attributes + 1
        more = one_more c.attributes key fields (sym at)

        pub put : length c.attributes < attribute_limit
            → Ok (PutAttribute (length c.attributes) (attribute_of key fields)) ≡ judged_change c (SetAttribute key fields)
        put few = grind (arith, more, judged_with, le-leb)

        pub too_many : attribute_limit ≤ length c.attributes → Err TooMuch ≡ judged_change c (SetAttribute key fields)
        too_many many = grind (arith, more, by_room, false_from_ne_true, leb-true)

module _ (c : Content) (key : List ℕ) where
  abbrev drop_told : Bool → Option ℕ → Result Step EditFault
  drop_told named place =
      judged_unless c (first_holding ((AttributeRefused, not named) ∷ (NoAttribute, is_none place) ∷ []))
      (option_map TakeAttribute place)

  module _ (good : is_key key ≡ true) where
    by_place : (place : Option ℕ) → place ≡ attribute_place key c.attributes
        → judged_change c (DropAttribute key) ≡ drop_told true place
    by_place place at = grind (arith, named)

    pub dropped : (k : ℕ) → Some k ≡ attribute_place key c.attributes → Ok (TakeAttribute k) ≡ judged_change c (DropAttribute key)
    unfolding step_checks
    dropped k at = sym (by_place (Some k) at)
