-- A step that fits and leads to sound items is not refused, and one that fits and is not refused leads to sound items.
use Rattle.std.proofs.Common.{◌≡◌, ℕ, ◌≤◌, ℤ, ◌≤ℤ◌, true, List, length, nat_eq, Option, None, Some, Result, IsTrue, refl, sym, subst, ◌↔◌, arith}
use Rattle.std.specs.Prelude.{IfSome, IsSome, insert, is_ok, pos, slice_get}
use Rattle.std.specs.Int.RustNames.{int_le}
use Rattle.std.specs.List.{All}
use Rattle.std.specs.Map.{set_value}
use Rattle.std.proofs.lemmas.Bool.Decides.{Decides-ltb}
use Rattle.std.proofs.lemmas.Int.{ints}
use Rattle.std.proofs.lemmas.Map.Entries.{All-lookup}
use Rattle.cam_refusals.specs.Checks.{answer_of, first_holding}
use Rattle.cam_units.specs.declared.length.Nm.{Nm}
use Rattle.cam_objects.specs.Attributes.{AreAttributes}
use Rattle.cam_objects.specs.Contents.{Content as GerberContent, DrillContent}
use Rattle.cam_objects.specs.DrillSoundness.{IsSoundDrillContent, IsSoundDrillItem, IsSoundTool, drill_points_of}
use Rattle.cam_objects.specs.Drilling.{diameter_of}
use Rattle.cam_objects.specs.Shifting.{shifted_drill_item, shifted_item}
use Rattle.cam_objects.specs.Soundness.{IsSoundContent, IsSoundItem, KeepsLimits, is_formed_item, is_inside, item_checks}
use Rattle.cam_objects.specs.declared.item.Item.{Item}
use Rattle.cam_objects.proofs.SoundItems.{meets_drill, passed}
use Rattle.cam_objects.proofs.TestLaws.{all_on_board, at_most, limit_law}
use Rattle.cam_edits.specs.declared.drill_step.DrillStep.{DrillStep}
use Rattle.cam_edits.specs.declared.drill_step.DrillStep.TheVariants as drill_steps
use Rattle.cam_edits.specs.declared.step.Step.{Step}
use Rattle.cam_edits.specs.declared.step.Step.TheVariants as steps
use Rattle.cam_edits.specs.declared.fault.EditFault.{EditFault}
use Rattle.cam_edits.specs.DrillSteps.{IsDrillFit, IsSoundDrillStep, drill_items_after, tools_after, with_tool}
use Rattle.cam_edits.specs.Editing.{aperture_checks, drill_step_checks, has_aperture, is_tool_size, move_checks}
use Rattle.cam_edits.specs.Editing.{move_drill_checks, polarity_checks, step_checks}
use Rattle.cam_edits.specs.Machinery.DrillStepLaws.{tool_set}
use Rattle.cam_edits.specs.Machinery.PlaceLaws.{element_at, found, get_changed, get_inserted}
use Rattle.cam_edits.specs.Machinery.Judging.{drill_step_answer, step_answer}
use Rattle.cam_edits.specs.Moving.{IsMovableDrillItem, IsMovableItem, way}
use Rattle.cam_edits.specs.Places.{changed}
use Rattle.cam_edits.specs.Sheets.{IsSoundGerber}
use Rattle.cam_edits.specs.Steps.{HasAperture, IsFit, IsOne, IsSoundStep, attributes_after, items_after, with_aperture, with_object}
use Rattle.cam_edits.proofs.EditedLists.{all_here}
use Rattle.cam_edits.proofs.GerberEdits.{of_item}
use Rattle.cam_edits.proofs.SoundDrillEdits.{drill_step_stays_sound}
use Rattle.cam_edits.proofs.SoundEdits.{step_stays_sound}
use Rattle.cam_edits.proofs.TouchedDrillBoxes.{new_diameter}

-- an answer is that nothing was refused
tells_none : (told : Option EditFault) (answer : Result Unit EditFault) → answer ≡ answer_of told
    → IsTrue (is_ok answer) ↔ (told ≡ None)
tells_none told answer e = grind arith

-- what holds of all elements holds of one that was changed
all_changed : {X : Type 0} (P : X → Type 0) (f : X → X) (xs : List X) (k : ℕ) (x : X) → slice_get xs k ≡ Some x
    → All P (changed f xs k) → P (f x)
all_changed P f xs k x here all = all_here P (changed f xs k) k (f x) all (get_changed xs k x here f)

all_inserted : {X : Type 0} (P : X → Type 0) (xs : List X) (k : ℕ) (x : X) → k ≤ length xs → All P (insert xs k x) → P x
all_inserted P xs k x fit all = all_here P (insert xs k x) k x all (get_inserted xs k x fit)

-- ---- Gerber layers

has_its_aperture : (x : Item) → IsOne HasAperture x → has_aperture x ≡ true
has_its_aperture x h = grind arith

module _ (c : GerberContent) where
  -- a sound item among those that there are with it
  sound_among : (item : Item) (items : List Item) → IsSoundItem c.entries item → KeepsLimits c.entries items
      → (is_formed_item item ≡ true) × (of_item c item items ≡ None)
  unfolding item_checks
  sound_among item items sound limits = grind (arith, passed, limit_law)

  inside : (item : Item) → IsSoundItem c.entries item → is_inside c.entries item ≡ true
  unfolding item_checks
  inside item sound = grind (arith, passed)

  inked : (x : Item) → IsOne (λ _. Unit {0}) x → first_holding (polarity_checks c (Some x)) ≡ None
  inked x h = grind arith

  unrefused : (step : Step) → IsFit step c → IsSoundContent c.entries (items_after step c.items)
      → first_holding (step_checks c step) ≡ None
  unfolding step_checks
  unrefused (steps.Insert k item) fit h =
      let sound = all_inserted (IsSoundItem c.entries) c.items k item fit h.items in
      let told = sound_among item (insert c.items k item) sound h.limits in
      rw (told.0, (at_most k (length c.items)).1 fit) told.1
  unrefused (steps.Delete k) fit h = rw ((Decides-ltb k (length c.items)).1 fit) refl
  unrefused (steps.Move k dx dy) fit h =
      let by = way dx dy in
      let x = found (IsMovableItem by) c.items k fit.1 in
      let sound = all_changed (IsSoundItem c.entries) (shifted_item by) c.items k x.0 x.1 h.items in
      subst (λ o. first_holding (move_checks c by o) ≡ None) (sym x.1) (rw (inside (shifted_item by x.0) sound) refl)
  unrefused (steps.Reorder k m) fit h = grind (arith, Decides-ltb)
  unrefused (steps.Aperture k n) fit h =
      let f = with_object (with_aperture n) in
      let x = found (IsOne HasAperture) c.items k fit in
      let sound = all_changed (IsSoundItem c.entries) f c.items k x.0 x.1 h.items in
      subst (λ o. first_holding (aperture_checks c k n o) ≡ None) (sym x.1)
      (rw (has_its_aperture x.0 x.2) (sound_among (f x.0) (changed f c.items k) sound h.limits).1)
  unrefused (steps.Polarity k dark) fit h = grind (arith, inked)
  unrefused (steps.PutAttribute k a) fit h = refl
  unrefused (steps.TakeAttribute k) fit h = refl
  unrefused (steps.SetFields k fields) fit h = refl

  pub sound_by : (step : Step) (answer : Result Unit EditFault) → IsFit step c → IsSoundGerber c
      → AreAttributes (attributes_after step c.attributes) → answer ≡ step_answer c step
      → IsTrue (is_ok answer) ↔ IsSoundStep step c
  sound_by step answer fit h kept e = grind (arith, tells_none, step_stays_sound, unrefused)

-- ---- drill layers

signed_at_most : (a b : ℤ) → a ≤ℤ b → int_le a b ≡ true
signed_at_most a b h = grind (arith, ints)

sized : (ts : List (ℕ × Nm)) (t : ℕ) (d : Nm) → IsSome (diameter_of ts t)
    → All (λ (e : ℕ × Nm). IsSoundTool e.0 e.1) (set_value (nat_eq t) ts d) → is_tool_size d ≡ true
sized ts t d there sound =
    let P : Nm → Type 0 = λ w. (pos 1 ≤ℤ w.0) × (w.0 ≤ℤ pos 200000000) in
    let each = All-lookup P (nat_eq t) (set_value (nat_eq t) ts d)
    (λ k e lt. let tool = sound k e lt in (tool.wide, tool.narrow)) in
    let size : P d = subst (λ (o : Option Nm). IfSome o P) (new_diameter ts t d there) each in
    rw (signed_at_most (pos 1) d.0 size.0, signed_at_most d.0 (pos 200000000) size.1) refl

module _ (c : DrillContent) where
  drill_unrefused : (step : DrillStep) → IsDrillFit step c
      → IsSoundDrillContent (tools_after step c.tools) (drill_items_after step c.items)
      → first_holding (drill_step_checks c step) ≡ None
  unfolding drill_step_checks
  drill_unrefused (drill_steps.Insert k item) fit h =
      let points = drill_points_of item in
      let m = meets_drill c.tools item (all_inserted (IsSoundDrillItem c.tools) c.items k item fit h.items) in
      rw (
        (Decides-ltb 0 (length points)).1 m.some,
        (at_most k (length c.items)).1 fit,
        m.known,
        (all_on_board points).1 m.inside,
        (at_most (length points) 1000000).1 m.few,
        (limit_law.drill_layer (insert c.items k item)).1 h.limits,
      ) refl
  drill_unrefused (drill_steps.Delete k) fit h = rw ((Decides-ltb k (length c.items)).1 fit) refl
  drill_unrefused (drill_steps.Move k dx dy) fit h =
      let by = way dx dy in
      let x = found (IsMovableDrillItem by) c.items k fit.1 in
      let new = shifted_drill_item by x.0 in
      let m = meets_drill c.tools new
      (all_changed (IsSoundDrillItem c.tools) (shifted_drill_item by) c.items k x.0 x.1 h.items) in
      subst (λ o. first_holding (move_drill_checks c by o) ≡ None) (sym x.1)
      (rw ((all_on_board (drill_points_of new)).1 m.inside) refl)
  drill_unrefused (drill_steps.Reorder k m) fit h = grind (arith, Decides-ltb)
  drill_unrefused (drill_steps.Tool k t) fit h =
      let x = element_at c.items k fit in
      let m = meets_drill c.tools (with_tool t x.0)
      (all_changed (IsSoundDrillItem c.tools) (with_tool t) c.items k x.0 x.1 h.items) in
      rw ((Decides-ltb k (length c.items)).1 fit, rw (tool_set t x.0) at m.known) refl
  drill_unrefused (drill_steps.Diameter t d) fit h = rw (fit, sized c.tools t d fit h.tools) refl

  pub drill_sound_by : (step : DrillStep) (answer : Result Unit EditFault) → IsDrillFit step c
      → IsSoundDrillContent c.tools c.items → answer ≡ drill_step_answer c step
      → IsTrue (is_ok answer) ↔ IsSoundDrillStep step c
  drill_sound_by step answer fit h e = grind (arith, tells_none, drill_step_stays_sound, drill_unrefused)
