-- What a step of a layer meets that is not refused.
use Rattle.std.proofs.Common.{◌≡◌, ℕ, ◌<◌, ◌≤◌, Bool, true, ◌&&◌, ℤ, ◌≤ℤ◌, nat_lt, List, length, Option, None, Some, arith}
use Rattle.std.specs.Prelude.{insert, slice_get}
use Rattle.std.specs.Int.RustNames.{int_le}
use Rattle.std.specs.List.{All}
use Rattle.std.proofs.lemmas.Bool.{leb-true, ltb-true}
use Rattle.std.proofs.lemmas.Int.{ints}
use Rattle.cam_refusals.specs.Checks.{first_holding}
use Rattle.cam_units.specs.Board.{IsOnBoard}
use Rattle.cam_units.specs.declared.point.Point.{Point}
use Rattle.cam_objects.specs.Contents.{Content as GerberContent, DrillContent}
use Rattle.cam_objects.specs.DrillSoundness.{IsSoundDrillItem, KeepsDrillLimits, drill_item_checks, drill_points_of}
use Rattle.cam_objects.specs.Shifting.{shifted_drill_item, shifted_item}
use Rattle.cam_objects.specs.Soundness.{IsInside, IsSoundItem, KeepsLimits, is_formed_item, item_checks}
use Rattle.cam_objects.specs.declared.drill_item.DrillItem.{DrillItem}
use Rattle.cam_objects.specs.declared.item.Item.{Item}
use Rattle.cam_objects.proofs.SoundItems.{passed}
use Rattle.cam_objects.proofs.TestLaws.{all_on_board, inside_law, limit_law}
use Rattle.cam_edits.specs.declared.drill_step.DrillStep.{DrillStep}
use Rattle.cam_edits.specs.declared.drill_step.DrillStep.TheVariants as drill_steps
use Rattle.cam_edits.specs.declared.step.Step.{Step}
use Rattle.cam_edits.specs.declared.step.Step.TheVariants as steps
use Rattle.cam_edits.specs.Editing.{aperture_checks, drill_step_checks, has_aperture, has_polarity, has_tool, is_tool_size}
use Rattle.cam_edits.specs.Editing.{move_checks, move_drill_checks, polarity_checks, step_checks}
use Rattle.cam_edits.specs.Moving.{way}
use Rattle.cam_edits.specs.Places.{changed}
use Rattle.cam_edits.specs.Steps.{with_aperture, with_object}
use Rattle.cam_edits.proofs.GerberEdits.{of_item, set_formed}

pub both : (a b : Bool) → (a && b) ≡ true → (a ≡ true) × (b ≡ true)
both a b h = grind arith

pub at_most_signed : (a b : ℤ) → int_le a b ≡ true → a ≤ℤ b
at_most_signed a b e = grind (arith, ints)

-- both places are there
both_there : (k m n : ℕ) → (nat_lt k n && nat_lt m n) ≡ true → (k < n) × (m < n)
both_there k m n e = let there = both (nat_lt k n) (nat_lt m n) e in (ltb-true k n there.0, ltb-true m n there.1)

-- there is an item at the place, and it is as told
abbrev pub IsThere : {X : Type 0} → List X → ℕ → (X → Type 0) → Type 0
IsThere {X} xs k P = (x : X) × (slice_get xs k ≡ Some x) × P x

-- ---- Gerber layers

module _ (c : GerberContent) where
  abbrev pub IsMet : Step → Type 0
  IsMet (steps.Insert k item) =
      (k ≤ length c.items) × IsSoundItem c.entries item × KeepsLimits c.entries (insert c.items k item)
  IsMet (steps.Delete k) = k < length c.items
  IsMet (steps.Move k dx dy) = IsThere c.items k (λ x. IsInside c.entries (shifted_item (way dx dy) x))
  IsMet (steps.Reorder k m) = (k < length c.items) × (m < length c.items)
  IsMet (steps.Aperture k n) =
      IsThere c.items k (λ x. (has_aperture x ≡ true) × IsSoundItem c.entries (with_object (with_aperture n) x)
      × KeepsLimits c.entries (changed (with_object (with_aperture n)) c.items k))
  IsMet (steps.Polarity k dark) = IsThere c.items k (λ x. has_polarity x ≡ true)
  IsMet _ = Unit {0}

  -- an item that is not malformed, among those that there are with it
  item_met : (item : Item) (items : List Item) → is_formed_item item ≡ true
      → of_item c item items ≡ None → IsSoundItem c.entries item × KeepsLimits c.entries items
  unfolding item_checks
  item_met item items formed none = grind (arith, passed, both, limit_law)

  moved : (k : ℕ) (by : Point) (o : Option Item) → slice_get c.items k ≡ o → first_holding (move_checks c by o) ≡ None
      → IsThere c.items k (λ x. IsInside c.entries (shifted_item by x))
  moved k by o at none = grind (arith, inside_law, passed)

  set : (k n : ℕ) (o : Option Item) → slice_get c.items k ≡ o → first_holding (aperture_checks c k n o) ≡ None
      → IsMet (steps.Aperture k n)
  set k n o at none = grind (arith, passed, item_met, set_formed)

  inked : (k : ℕ) (o : Option Item) → slice_get c.items k ≡ o → first_holding (polarity_checks c o) ≡ None
      → IsThere c.items k (λ x. has_polarity x ≡ true)
  inked k o at none = grind (arith, passed)

  pub met : (step : Step) → first_holding (step_checks c step) ≡ None → IsMet step
  unfolding step_checks
  met step none = grind (arith, passed, item_met, leb-true, ltb-true, moved, both_there, set, inked)

-- ---- drill layers

module _ (c : DrillContent) where
  abbrev pub IsDrillMet : DrillStep → Type 0
  IsDrillMet (drill_steps.Insert k item) =
      (k ≤ length c.items) × IsSoundDrillItem c.tools item × KeepsDrillLimits (insert c.items k item)
  IsDrillMet (drill_steps.Delete k) = k < length c.items
  IsDrillMet (drill_steps.Move k dx dy) =
      IsThere c.items k (λ x. All IsOnBoard (drill_points_of (shifted_drill_item (way dx dy) x)))
  IsDrillMet (drill_steps.Reorder k m) = (k < length c.items) × (m < length c.items)
  IsDrillMet (drill_steps.Tool k t) = (k < length c.items) × (has_tool c t ≡ true)
  IsDrillMet (drill_steps.Diameter t d) = (has_tool c t ≡ true) × (is_tool_size d ≡ true)

  drill_moved : (k : ℕ) (by : Point) (o : Option DrillItem) → slice_get c.items k ≡ o
      → first_holding (move_drill_checks c by o) ≡ None
      → IsThere c.items k (λ x. All IsOnBoard (drill_points_of (shifted_drill_item by x)))
  drill_moved k by o at none = grind (arith, all_on_board, passed)

  pub drill_met : (step : DrillStep) → first_holding (drill_step_checks c step) ≡ None → IsDrillMet step
  unfolding drill_step_checks drill_item_checks
  drill_met step none = grind (arith, passed, both, leb-true, limit_law, ltb-true, drill_moved, both_there)
