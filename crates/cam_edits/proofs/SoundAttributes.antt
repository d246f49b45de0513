-- An edit leaves the attributes of a layer sound.
use Rattle.std.proofs.lemmas.Grind.{common_steps}
use Rattle.std.proofs.Common.{◌≡◌, ◌≢◌, ℕ, suc, Bool, true, ◌&&◌, ◌==◌, nat_le, IsTrue, List, [], ◌∷◌}
use Rattle.std.proofs.Common.{length, take, drop, Option, None, Some, refl, sym, subst, arith}
use Rattle.std.specs.Prelude.{remove, slice_get}
use Rattle.std.specs.List.{All, list_all}
use Rattle.std.specs.Option.{option_map}
use Rattle.std.proofs.lemmas.Bool.{leb-true}
use Rattle.std.proofs.lemmas.Bool.Decides.{nat_tests}
use Rattle.std.proofs.lemmas.List.Elements.{All-cons, All-nil}
use Rattle.cam_objects.specs.Attributes.{AreAttributes, AreFields, IsAttribute, attribute_of, comma, is_attribute_byte}
use Rattle.cam_objects.specs.Attributes.{attribute_place, with_attribute}
use Rattle.cam_refusals.specs.Checks.{first_holding}
use Rattle.cam_refusals.specs.Limits.{attribute_limit}
use Rattle.cam_objects.specs.declared.attribute.Attribute.{Attribute}
use Rattle.cam_objects.proofs.EditedAttributes.{attribute_edits}
use Rattle.cam_objects.proofs.SoundItems.{passed}
use Rattle.cam_edits.specs.declared.edit.Change.{Change}
use Rattle.cam_edits.specs.declared.edit.Change.TheVariants as changes
use Rattle.cam_edits.specs.declared.edit.NewItem.TheVariants as new_items
use Rattle.cam_edits.specs.declared.step.Step.{Step}
use Rattle.cam_edits.specs.declared.step.Step.TheVariants as steps
use Rattle.cam_edits.specs.AttributeEdits.{are_fields, attribute_checks, is_field_byte, is_field_text, is_key, is_key_byte}
use Rattle.cam_edits.specs.AttributeEdits.{setting_step}
use Rattle.cam_edits.specs.Editing.{step_of}
use Rattle.cam_edits.specs.Steps.{attributes_after}
use Rattle.cam_edits.proofs.AttributeSteps.{after_setting, named}
use Rattle.cam_edits.proofs.EditedLists.{split_here}
use Rattle.cam_edits.proofs.MetSteps.{both}

-- ---- a key and fields that are written as they may be

key_byte : (byte : ℕ) → is_key_byte byte ≡ true → (is_attribute_byte byte ≡ true) × (byte ≢ comma)
key_byte byte e = (grind (arith, nat_tests), grind (arith, nat_tests))

field_byte : (byte : ℕ) → is_field_byte byte ≡ true → is_attribute_byte byte ≡ true
field_byte byte e = grind (arith, nat_tests)

-- what holds of bytes that pass a test holds of each where all pass
all_by : (test : ℕ → Bool) (P : ℕ → Type 0) → ((byte : ℕ) → test byte ≡ true → P byte) → (bytes : List ℕ)
    → list_all test bytes ≡ true → All P bytes
all_by test P holds [] e = All-nil P
all_by test P holds (byte ∷ bytes) e =
    let parts = both (test byte) (list_all test bytes) e in
    All-cons P byte bytes (holds byte parts.0) (all_by test P holds bytes parts.1)

last_of : (a b c : Bool) → (a && b && c) ≡ true → c ≡ true
last_of a b c e = (both (a && b) c e).1

key_bytes : (key : List ℕ) → is_key key ≡ true → list_all is_key_byte key ≡ true
key_bytes key e = last_of (nat_le 1 (length key)) (nat_le (length key) 255) (list_all is_key_byte key) e

text_bytes : (text : List ℕ) → is_field_text text ≡ true → list_all is_field_byte text ≡ true
text_bytes text e = last_of (nat_le 1 (length text)) (nat_le (length text) 4096) (list_all is_field_byte text) e

is_comma : (byte : ℕ) → (byte == comma) ≡ true → byte ≡ comma
is_comma byte e = grind (arith, nat_tests)

abbrev IsByte : ℕ → Type 0
IsByte byte = IsTrue (is_attribute_byte byte)

fields_bytes : (fields : List ℕ) → are_fields fields ≡ true → All IsByte fields
fields_bytes fields e = grind (arith, common_steps, All-nil, both, is_comma, All-cons, all_by, field_byte, text_bytes)

fields_apart : (fields : List ℕ) → are_fields fields ≡ true → AreFields fields
fields_apart fields e = grind (arith, is_comma, both)

written : (key fields : List ℕ) → is_key key ≡ true → are_fields fields ≡ true → IsAttribute (attribute_of key fields)
written key fields good wrote = record {
  name = all_by is_key_byte IsByte (λ byte e. (key_byte byte e).0) key (key_bytes key good);
  whole = all_by is_key_byte (λ byte. byte ≢ comma) (λ byte e. (key_byte byte e).1) key (key_bytes key good);
  fields = fields_bytes fields wrote;
  apart = fields_apart fields wrote;
}

-- ---- the attributes after a step

module _ (xs : List Attribute) (h : AreAttributes xs) where
  abbrev AreSoundAfter : Step → Type 0
  AreSoundAfter step = AreAttributes (attributes_after step xs)

  set_sound : (key fields : List ℕ) → first_holding (attribute_checks xs (changes.SetAttribute key fields)) ≡ None
      → AreSoundAfter (setting_step key fields (length xs) (attribute_place key xs))
  set_sound key fields e =
      let new = attribute_of key fields in
      let room = nat_le (length (with_attribute new xs)) attribute_limit in
      let told = passed _ (is_key key && are_fields fields) _ e in
      let good = both (is_key key) (are_fields fields) told.0 in
      let few = leb-true (length (with_attribute new xs)) attribute_limit (passed _ room _ told.1).0 in
      subst AreAttributes (sym (after_setting xs key fields))
      (attribute_edits.set xs new h (record { sound = written key fields good.0 good.1; room = few }))

  pub taken_sound : (k : ℕ) (a : Attribute) → slice_get xs k ≡ Some a → AreAttributes (remove xs k)
  taken_sound k a here =
      attribute_edits.remove (take k xs) (drop (suc k) xs) a (subst AreAttributes (split_here xs k a here) h)

  drop_sound : (key : List ℕ) (place : Option ℕ) → attribute_place key xs ≡ place → (step : Step)
      → option_map steps.TakeAttribute place ≡ Some step → AreSoundAfter step
  drop_sound key None at step e = absurd cc
  drop_sound key (Some k) at step e =
      let same : steps.TakeAttribute k ≡ step = cc in
      let there = named key xs k at in subst AreSoundAfter same (taken_sound k there.0 there.1)

  -- a step that keeps the attributes
  kept_by : (asked step : Step) → ◌≡◌ {A = Option Step} (Some asked) (Some step) → AreSoundAfter asked → AreSoundAfter step
  kept_by asked step e sound = let same : asked ≡ step = cc in subst AreSoundAfter same sound

  pub attributes_stay_sound : (change : Change) → first_holding (attribute_checks xs change) ≡ None → (step : Step)
      → step_of xs change ≡ Some step → AreSoundAfter step
  attributes_stay_sound (changes.Insert k (new_items.Gerber item)) ok step e = kept_by (steps.Insert k item) step e h
  attributes_stay_sound (changes.Insert k (new_items.Drill item)) ok step e = absurd cc
  attributes_stay_sound (changes.Delete k) ok step e = kept_by (steps.Delete k) step e h
  attributes_stay_sound (changes.Move k dx dy) ok step e = kept_by (steps.Move k dx dy) step e h
  attributes_stay_sound (changes.Reorder k m) ok step e = kept_by (steps.Reorder k m) step e h
  attributes_stay_sound (changes.Aperture k n) ok step e = kept_by (steps.Aperture k n) step e h
  attributes_stay_sound (changes.Polarity k dark) ok step e = kept_by (steps.Polarity k dark) step e h
  attributes_stay_sound (changes.Tool k t) ok step e = absurd cc
  attributes_stay_sound (changes.Diameter t d) ok step e = absurd cc
  attributes_stay_sound (changes.SetAttribute key fields) ok step e = grind (arith, kept_by, set_sound)
  attributes_stay_sound (changes.DropAttribute key) ok step e = drop_sound key (attribute_place key xs) refl step e
