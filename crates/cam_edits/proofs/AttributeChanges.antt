-- An edit of file attributes changes no picture and touches no box.
use Rattle.std.proofs.Common.{◌≡◌, ℕ, zero, suc, ◌+◌, Bool, true, false, cond, not, List, [], ◌∷◌, length, map}
use Rattle.std.proofs.Common.{Option, None, Some, Result, Ok, refl, ap, sym, subst, ◌∙◌, arith}
use Rattle.std.specs.Prelude.{position, remove, slice_get, slice_set}
use Rattle.std.specs.List.{position_or_len}
use Rattle.std.specs.Option.{option_map}
use Rattle.std.specs.Str.{bytes_eq}
use Rattle.std.proofs.lemmas.List.Quantifiers.{position-Some}
use Rattle.cam_objects.specs.Attributes.{has_name, attribute_place}
use Rattle.cam_objects.specs.Contents.{Content as GerberContent}
use Rattle.cam_objects.specs.declared.attribute.Attribute.{Attribute}
use Rattle.cam_edits.specs.declared.edit.Change.{Change}
use Rattle.cam_edits.specs.declared.edit.Change.TheVariants.{Insert, Delete, Move, Reorder, Aperture, Polarity, Tool, Diameter}
use Rattle.cam_edits.specs.declared.edit.Change.TheVariants.{SetAttribute, DropAttribute}
use Rattle.cam_edits.specs.declared.fault.EditFault.{EditFault}
use Rattle.cam_edits.specs.declared.step.Step.{Step}
use Rattle.cam_edits.specs.declared.step.Step.TheVariants.{TakeAttribute}
use Rattle.cam_edits.specs.AttributeEdits.{setting_step}
use Rattle.cam_edits.specs.AttributeLaws.{AttributeLaw, ChangesAttributes, IsOfAttributes, attributes_of, with_attributes_of}
use Rattle.cam_edits.specs.AttributeLaws.{without_attribute}
use Rattle.cam_edits.specs.Boards.{changed_at, content_at, content_or_empty, place_named, with_content}
use Rattle.cam_edits.specs.Editing.{edited, edited_at, edited_sheet, judged_change, drill_step_of, step_of}
use Rattle.cam_edits.specs.Editing.{with_gerber, with_step}
use Rattle.cam_edits.specs.Images.{sheet_leaves}
use Rattle.cam_edits.specs.Machinery.PlaceLaws.{changed_is, element_at, get_changed}
use Rattle.cam_edits.specs.Sheets.{Content, Gerber, Sheet, sheet}
use Rattle.cam_edits.specs.Steps.{after_step}
use Rattle.cam_edits.specs.Touched.{touched}
use Rattle.cam_edits.specs.Touches.{boxes_in, touch_at, touch_of_edit}
use Rattle.cam_edits.proofs.AttributeSteps.{after_setting_at}
use Rattle.cam_edits.proofs.FittingEdits.{change_accepted}

-- ---- what the step makes of a layer

module _ (name : List ℕ) where
  taken : (xs : List Attribute) → remove xs (position_or_len (has_name name) xs) ≡ without_attribute name xs
  taken [] = refl
  taken (a ∷ xs) = go (has_name name a) (position_or_len (has_name name) xs) (taken xs) where
    go : (b : Bool) (n : ℕ) → remove xs n ≡ without_attribute name xs
        → remove (a ∷ xs) (cond (not b) (1 + n) 0) ≡ cond b xs (a ∷ without_attribute name xs)
    go true n rest = refl
    go false n rest =
        let next : 1 + n ≡ suc n = omega arith in
        ap (remove (a ∷ xs)) next ∙ ap (λ (rest : List Attribute). a ∷ rest) rest

  place_is : (t : Bool) (n k : ℕ) → cond t (Some n) None ≡ Some k → n ≡ k
  place_is t n k e = grind arith

  taken_at : (xs : List Attribute) (k : ℕ) → attribute_place name xs ≡ Some k → remove xs k ≡ without_attribute name xs
  taken_at xs k e = grind (arith, place_is, taken)

module _ (c : GerberContent) where
  abbrev with_attributes : List Attribute → GerberContent
  with_attributes attributes = record { attributes = attributes; entries = c.entries; items = c.items }

  abbrev Gives : Change → Step → Type 0
  Gives change step = (after_step step c ≡ with_attributes (attributes_of change c.attributes)) × (touched step c ≡ [])

  set_gives : (key fields : List ℕ) (place : Option ℕ) → attribute_place key c.attributes ≡ place
      → Gives (SetAttribute key fields) (setting_step key fields (length c.attributes) place)
  unfolding touched
  set_gives key fields place e = grind (arith, after_setting_at)

  drop_gives : (key : List ℕ) (place : Option ℕ) → attribute_place key c.attributes ≡ place → (step : Step)
      → option_map TakeAttribute place ≡ Some step → Gives (DropAttribute key) step
  unfolding touched
  drop_gives key place at step e = grind (arith, taken_at)

  gives : (change : Change) → IsOfAttributes change → (step : Step) → step_of c.attributes change ≡ Some step
      → Gives change step
  gives (Insert k item) is step e = absurd is
  gives (Delete k) is step e = absurd is
  gives (Move k dx dy) is step e = absurd is
  gives (Reorder k m) is step e = absurd is
  gives (Aperture k n) is step e = absurd is
  gives (Polarity k dark) is step e = absurd is
  gives (Tool k t) is step e = absurd is
  gives (Diameter t d) is step e = absurd is
  gives (SetAttribute key fields) is step e =
      let place = attribute_place key c.attributes in
      let same : setting_step key fields (length c.attributes) place ≡ step = cc in
      subst (Gives (SetAttribute key fields)) same (set_gives key fields place refl)
  gives (DropAttribute key) is step e = drop_gives key (attribute_place key c.attributes) refl step e

-- a drill layer has none
no_drill : (change : Change) → IsOfAttributes change → drill_step_of change ≡ None
no_drill change is = grind arith

-- ---- the sheets

-- a sheet in place of one that paints the same
same_leaves : (xs : List Sheet) (k other : ℕ) (s t : Sheet) → slice_get xs k ≡ Some s
    → sheet_leaves t.content ≡ sheet_leaves s.content
    → sheet_leaves (content_at (slice_set xs k t) other) ≡ sheet_leaves (content_at xs other)
same_leaves [] k other s t here same = absurd cc
same_leaves (x ∷ xs) zero zero s t here same = grind arith
same_leaves (x ∷ xs) zero (suc other) s t here same = refl
same_leaves (x ∷ xs) (suc k) zero s t here same = refl
same_leaves (x ∷ xs) (suc k) (suc other) s t here same = same_leaves xs k other s t here same

abbrev name_of : Sheet → List ℕ
name_of s = s.name

same_names : (xs : List Sheet) (k : ℕ) (s t : Sheet) → slice_get xs k ≡ Some s → t.name ≡ s.name
    → map name_of (slice_set xs k t) ≡ map name_of xs
same_names [] k s t here same = absurd cc
same_names (x ∷ xs) zero s t here same = grind arith
same_names (x ∷ xs) (suc k) s t here same = ap (λ (ns : List (List ℕ)). x.name ∷ ns) (same_names xs k s t here same)

module _ (change : Change) (is : IsOfAttributes change) (sheets after : List Sheet) (place : ℕ) (s : Sheet)
    (here : slice_get sheets place ≡ Some s) where
  abbrev HasChanged : Content → Type 0
  HasChanged c = ChangesAttributes change (record { sheet = place; boxes = boxes_in change c }) sheets after

  held_there : content_at sheets place ≡ s.content
  held_there = ap content_or_empty here

  put : (c : GerberContent) → s.content ≡ Gerber c → (new : GerberContent)
      → new ≡ with_attributes c (attributes_of change c.attributes) → boxes_in change (Gerber c) ≡ []
      → changed_at (λ _. Gerber new) place sheets ≡ after → HasChanged (Gerber c)
  put c holds new gives no_box is =
      let next = with_content (λ _. Gerber new) in
      let set = sym is ∙ changed_is sheets place s here next in
      let same : sheet_leaves (Gerber new) ≡ sheet_leaves s.content =
      ap (λ c. sheet_leaves (Gerber c)) gives ∙ sym (ap sheet_leaves holds) in
      record {
        names = ap (map name_of) set ∙ same_names sheets place s (sheet s.name (Gerber new)) here refl;
        listed =
            ap (λ sheets. content_at sheets place) (sym is)
            ∙ ap content_or_empty (get_changed sheets place s here next)
            ∙ ap Gerber gives
            ∙ sym (ap (with_attributes_of change) (held_there ∙ holds));
        pictures = λ other.
            ap (λ sheets. sheet_leaves (content_at sheets other)) set
            ∙ same_leaves sheets place other s (sheet s.name (Gerber new)) here same;
        boxes = no_box;
      }

  stepped : (c : GerberContent) → s.content ≡ Gerber c → (r : Result Step EditFault) → judged_change c change ≡ r
      → with_step (with_gerber c) sheets place r ≡ Ok after → HasChanged (Gerber c)
  stepped c holds r judgement e = grind (arith, change_accepted, gives, put)

  sheet_edited : (c : Content) → s.content ≡ c → edited_sheet change sheets place c ≡ Ok after → HasChanged c
  sheet_edited c holds e = grind (arith, stepped, no_drill)

module _ (change : Change) (is : IsOfAttributes change) (name : List ℕ) (sheets after : List Sheet) where
  edited_there : (o : Option ℕ) → position (λ (s : Sheet). bytes_eq s.name name) sheets ≡ o
      → edited_at change sheets o ≡ Ok after → ChangesAttributes change (touch_at change sheets o) sheets after
  edited_there None at e = absurd cc
  edited_there (Some place) at e =
      let within = (position-Some (λ (s : Sheet). bytes_eq s.name name) sheets place (sheet [] (content_at [] 0)) at).0 in
      let there = element_at sheets place within in
      let content = content_at sheets place in
      sheet_edited change is sheets after place there.0 there.1 content (sym (ap content_or_empty there.1)) e

pub attributes_change_no_picture : AttributeLaw
unfolding edited touch_of_edit place_named
attributes_change_no_picture edit sheets after is e =
    edited_there edit.change is edit.name sheets after (place_named edit.name sheets) refl e
