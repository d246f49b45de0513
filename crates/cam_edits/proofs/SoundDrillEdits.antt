-- What a step makes of a sound drill layer is sound.
use Rattle.std.proofs.Common.{◌≡◌, ℕ, suc, ◌≤◌, List, [], ◌∷◌, ◌++◌, take, drop, None, Some, sym, subst, ◌∙◌, arith}
use Rattle.std.specs.Prelude.{IsSome, IsTrue, insert, is_some, remove, slice_get}
use Rattle.std.specs.List.{All}
use Rattle.std.proofs.lemmas.Bool.Decides.{nat_tests}
use Rattle.std.proofs.lemmas.List.{take-append-drop}
use Rattle.std.proofs.lemmas.List.Elements.{All-head, All-tail}
use Rattle.cam_refusals.specs.Checks.{first_holding}
use Rattle.cam_units.specs.Board.{IsOnBoard}
use Rattle.cam_units.specs.declared.length.Nm.{Nm}
use Rattle.cam_units.specs.declared.point.Point.{Point}
use Rattle.cam_objects.specs.declared.drill_item.DrillItem.{DrillItem}
use Rattle.cam_objects.specs.Contents.{DrillContent}
use Rattle.cam_objects.specs.Drilling.{diameter_of}
use Rattle.cam_objects.specs.DrillSoundness.{IsSoundDrillContent, IsSoundDrillItem, IsSoundTool}
use Rattle.cam_objects.specs.DrillSoundness.{KeepsDrillLimits, drill_count_of, drill_points_of}
use Rattle.cam_objects.specs.Shifting.{shifted_drill_item}
use Rattle.cam_objects.proofs.EditedLayers.{drill_edits}
use Rattle.cam_edits.specs.declared.drill_step.DrillStep.{DrillStep}
use Rattle.cam_edits.specs.declared.drill_step.DrillStep.TheVariants as steps
use Rattle.cam_edits.specs.DrillSteps.{drill_items_after, tools_after, with_tool}
use Rattle.cam_edits.specs.Editing.{drill_step_checks, is_tool_size}
use Rattle.cam_edits.specs.Machinery.PlaceLaws.{changed_is, element_at, reordered_is, within}
use Rattle.cam_edits.specs.Moving.{way}
use Rattle.cam_edits.specs.Places.{changed, reordered}
use Rattle.cam_edits.proofs.ChangedItems.{count_with_tool, sound_with_tool}
use Rattle.cam_edits.proofs.EditedLists.{all_here, length_behind, length_of_other, set_here, split_here, sum_behind, sum_of_other}
use Rattle.cam_edits.proofs.MetSteps.{IsDrillMet, at_most_signed, both, drill_met}

module _ (ts : List (ℕ × Nm)) (xs : List DrillItem) (h : IsSoundDrillContent ts xs) where
  abbrev AreSoundItems : List DrillItem → Type 0
  AreSoundItems ys = IsSoundDrillContent ts ys

  inserted : (k : ℕ) (item : DrillItem) → IsSoundDrillItem ts item → KeepsDrillLimits (insert xs k item)
      → AreSoundItems (insert xs k item)
  inserted k item good room = grind (arith, drill_edits, take-append-drop, length_behind, sum_behind)

  module _ (k : ℕ) (item : DrillItem) (here : slice_get xs k ≡ Some item) where
    abbrev before : List DrillItem
    before = take k xs

    abbrev after : List DrillItem
    after = drop (suc k) xs

    split : AreSoundItems (before ++ item ∷ after)
    split = subst AreSoundItems (split_here xs k item here) h

    changed_here : (f : DrillItem → DrillItem) → changed f xs k ≡ before ++ f item ∷ after
    changed_here f = changed_is xs k item here f ∙ set_here xs k (f item) (within xs k item here)

    removed : AreSoundItems (remove xs k)
    removed = drill_edits.remove ts before after item split

    moved : (by : Point) → All IsOnBoard (drill_points_of (shifted_drill_item by item))
        → AreSoundItems (changed (shifted_drill_item by) xs k)
    moved by inside =
        subst AreSoundItems (sym (changed_here (shifted_drill_item by)))
        (drill_edits.move ts before after item by split inside)

    carried : (m : ℕ) → AreSoundItems (reordered xs k m)
    carried m =
        subst AreSoundItems (sym (reordered_is xs k item here m))
        (drill_edits.reorder ts before after (take m (remove xs k)) (drop m (remove xs k)) item split
        (take-append-drop m (remove xs k)))

    retooled : (t : ℕ) → IsTrue (is_some (diameter_of ts t)) → AreSoundItems (changed (with_tool t) xs k)
    retooled t there =
        let new = with_tool t item in
        let good = all_here (IsSoundDrillItem ts) xs k item h.items here in
        let limits = split.limits in
        subst AreSoundItems (sym (changed_here (with_tool t)))
        (drill_edits.replace ts before after item new split (sound_with_tool ts t item there good)
        (record {
          few = subst (λ n. n ≤ 1000000) (length_of_other before after item new) limits.few;
          leaves =
              subst (λ n. n ≤ 4000000) (sum_of_other drill_count_of before after item new
              (count_with_tool t item)) limits.leaves;
        }))

-- the number of a sound tool that there is
numbered : (ts : List (ℕ × Nm)) (t : ℕ) → All (λ (e : ℕ × Nm). IsSoundTool e.0 e.1) ts → IsSome (diameter_of ts t)
    → (1 ≤ t) × (t ≤ 9999)
numbered [] t sound there = absurd cc
numbered (e ∷ ts) t sound there =
    grind (arith, All-tail, All-head, nat_tests, numbered ts t (All-tail (λ (e : ℕ × Nm). IsSoundTool e.0 e.1) e ts sound))

-- a tool that there is, with a diameter that it may have
pub sized_tool : (ts : List (ℕ × Nm)) (t : ℕ) (d : Nm) → All (λ (e : ℕ × Nm). IsSoundTool e.0 e.1) ts
    → IsSome (diameter_of ts t) → IsTrue (is_tool_size d) → IsSoundTool t d
sized_tool ts t d sound there size = grind (arith, numbered, both, at_most_signed)

met_step_sound : (c : DrillContent) (step : DrillStep) → IsSoundDrillContent c.tools c.items → IsDrillMet c step
    → IsSoundDrillContent (tools_after step c.tools) (drill_items_after step c.items)
met_step_sound c (steps.Insert k item) h m = inserted c.tools c.items h k item m.1 m.2
met_step_sound c (steps.Delete k) h m =
    let there = element_at c.items k m in removed c.tools c.items h k there.0 there.1
met_step_sound c (steps.Move k dx dy) h m = moved c.tools c.items h k m.0 m.1 (way dx dy) m.2
met_step_sound c (steps.Reorder k m) h both =
    let there = element_at c.items k both.0 in carried c.tools c.items h k there.0 there.1 m
met_step_sound c (steps.Tool k t) h m =
    let there = element_at c.items k m.0 in retooled c.tools c.items h k there.0 there.1 t m.1
met_step_sound c (steps.Diameter t d) h m =
    drill_edits.diameter c.tools c.items t d h m.0 (sized_tool c.tools t d h.tools m.0 m.1)

pub drill_step_stays_sound : (c : DrillContent) (step : DrillStep) → IsSoundDrillContent c.tools c.items
    → first_holding (drill_step_checks c step) ≡ None
    → IsSoundDrillContent (tools_after step c.tools) (drill_items_after step c.items)
drill_step_stays_sound c step h none = met_step_sound c step h (drill_met c step none)
