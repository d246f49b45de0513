-- what is kept of a drill layer whose items shift with a step, or one of whose tools gets another diameter
use Rattle.std.proofs.Common.{arith, ◌≡◌, ℕ, List, Option, None, Some, ap, sym, subst, ◌∙◌}
use Rattle.std.specs.Prelude.{IfNone, IfSome}
use Rattle.cam_units.specs.declared.length.Nm.{Nm}
use Rattle.cam_objects.specs.Cells.{AreCellsOf, Reaches, drill_item_boxes}
use Rattle.cam_objects.specs.Contents.{DrillContent, drill_content_of}
use Rattle.cam_objects.specs.DrillSoundness.{IsSoundDrillContent}
use Rattle.cam_objects.specs.declared.drill_layer.DrillLayer.{DrillLayer}
use Rattle.cam_edits.specs.declared.indexed.Kept.{Kept}
use Rattle.cam_edits.specs.declared.drill_step.DrillStep.{DrillStep}
use Rattle.cam_edits.specs.declared.drill_step.DrillStep.TheVariants.{Diameter}
use Rattle.cam_edits.specs.declared.shift.Shift.{Shift}
use Rattle.cam_edits.specs.DrillSteps.{IsDrillFit, IsSoundDrillStep, after_drill_step, tools_after}
use Rattle.cam_edits.specs.Machinery.Shifts.{IsKeptOfDrill, IsShift, WasKeptBefore, WasKeptOfDrill, WasKeptUnsized, WereCells}
use Rattle.cam_edits.specs.Machinery.Shifts.{drill_leaves_at, drill_leaves_in}
use Rattle.cam_edits.proofs.ShiftedItems.{Follows, leaves_follow, were_cells}

module _ (before layer : DrillLayer) (shift : Shift) (tools : before.tools ≡ layer.tools)
    (shifted : IsShift shift before.items.items layer.items.items) where
  pub shifted_cells : (cells : Reaches) → AreCellsOf (drill_item_boxes before.tools before.items.items) cells
      → WereCells shift cells (drill_item_boxes layer.tools layer.items.items)
  shifted_cells cells known = grind (arith, were_cells)

-- the holes of a layer of which something was kept before so many left and so many came
pub drill_leaves : (kept : Kept) (shift : Shift) (gone come : ℕ) (layer : DrillLayer)
    → WasKeptOfDrill kept shift gone layer → come ≡ drill_leaves_at layer shift.to
    → Follows (drill_leaves_in layer) kept.leaves gone come
drill_leaves kept shift gone come layer was came = grind (arith, leaves_follow)

abbrev AreSound : DrillContent → Type 0
AreSound c = IsSoundDrillContent c.tools c.items

-- a step that gives a tool another diameter
unsized : (before layer : DrillLayer) (kept : Kept) (step : DrillStep) (t : ℕ) (d : Nm) → IsKeptOfDrill before kept
    → IsSoundDrillStep step (drill_content_of before)
    → drill_content_of layer ≡ after_drill_step step (drill_content_of before) → step ≡ Diameter t d
    → WasKeptUnsized kept t d layer
unsized before layer kept step t d known fits content is =
    let changed = content ∙ ap (λ (s : DrillStep). after_drill_step s (drill_content_of before)) is in record {
      before = before;
      known = known;
      sound = subst AreSound (sym content) fits.after;
      there = subst (λ (s : DrillStep). IsDrillFit s (drill_content_of before)) is fits.fits;
      tools = ap (λ (c : DrillContent). c.tools) changed;
      items = ap (λ (c : DrillContent). c.items) changed;
    }

-- a step, by whether it gives a tool another diameter
pub kept_before : (before layer : DrillLayer) (kept : Kept) (step : DrillStep) (size : Option (ℕ × Nm)) (shift : Shift)
    (gone : ℕ) → IsKeptOfDrill before kept → IsSoundDrillStep step (drill_content_of before)
    → drill_content_of layer ≡ after_drill_step step (drill_content_of before)
    → IfSome size (λ s. step ≡ Diameter s.0 s.1) → IfNone size ((tools : List (ℕ × Nm)) → tools_after step tools ≡ tools)
    → IsShift shift before.items.items layer.items.items → gone ≡ drill_leaves_at before shift.from
    → WasKeptBefore size shift gone layer kept
kept_before before layer kept step None shift gone known fits content given keeps shifted left = record {
  before = before;
  known = known;
  sound = subst AreSound (sym content) fits.after;
  tools = sym (ap (λ (c : DrillContent). c.tools) content ∙ keeps before.tools);
  shifted = shifted;
  left = left;
}
kept_before before layer kept step (Some size) shift gone known fits content given keeps shifted left =
    unsized before layer kept step size.0 size.1 known fits content given
