-- How edits of a drill layer are judged, and that those without a refusal fit.
use Rattle.std.proofs.Common.{◌≡◌, ◌↔◌, ℕ, ◌≤◌, Bool, true, false, not, cond, nat_le, IsTrue, List, [], ◌∷◌, ◌++◌}
use Rattle.std.proofs.Common.{length, max, sum_by, Option, None, Some, Result, Ok, Err, ap, sym, ◌∙◌, arith}
use Rattle.std.specs.Prelude.{insert, slice_get}
use Rattle.std.specs.List.{All}
use Rattle.std.proofs.lemmas.Bool.{false_from_ne_true, leb-true}
use Rattle.std.proofs.lemmas.List.{length-append}
use Rattle.std.proofs.lemmas.List.Edits.{length-insert}
use Rattle.std.proofs.lemmas.List.Sums.{sum_by-append, sum_by-cons, sum_by-insert}
use Rattle.cam_refusals.specs.Checks.{answer_of, first_holding}
use Rattle.cam_units.specs.Board.{IsOnBoard}
use Rattle.cam_units.specs.declared.point.Point.{Point}
use Rattle.cam_objects.specs.Contents.{DrillContent}
use Rattle.cam_objects.specs.DrillSoundness.{IsSoundDrillContent, IsSoundDrillItem, KeepsDrillLimits, drill_count_of}
use Rattle.cam_objects.specs.DrillSoundness.{drill_item_checks, drill_points_of, keeps_drill_limits}
use Rattle.cam_objects.specs.Soundness.{are_on_board}
use Rattle.cam_objects.specs.Shifting.{IsMove, shifted_drill_item}
use Rattle.cam_objects.specs.declared.drill_item.DrillItem.{DrillItem}
use Rattle.cam_objects.specs.declared.item_fault.ItemFault.{ItemFault}
use Rattle.cam_edits.specs.declared.drill_step.DrillStep.{DrillStep}
use Rattle.cam_edits.specs.declared.drill_step.DrillStep.TheVariants.{Insert, Delete, Move, Reorder, Tool, Diameter}
use Rattle.cam_edits.specs.declared.fault.EditFault.TheVariants.{NoItem, OutOfBoard}
use Rattle.cam_edits.specs.DrillSteps.{IsDrillFit}
use Rattle.cam_edits.specs.Editing.{drill_step_checks, move_drill_checks}
use Rattle.cam_edits.specs.Machinery.Judging.{drill_step_answer, item_answer, place_answer}
use Rattle.cam_edits.specs.Moving.{IsMovableDrillItem, way}
use Rattle.cam_objects.proofs.SoundItems.{none_told}
use Rattle.cam_objects.proofs.TestLaws.{all_on_board, limit_law, same_test}
use Rattle.cam_edits.proofs.EditedLists.{all_here}
use Rattle.cam_edits.proofs.ItemMoves.{movable_drill_item, shiftable_way, short_drill_item}
use Rattle.cam_edits.proofs.MetSteps.{IsDrillMet, drill_met}
use Rattle.cam_edits.proofs.Refusals.{by_room, farther_place, has_at, in_one_drill_order}

-- ---- the limits of a drill layer with an item more

module _ (xs : List DrillItem) (k : ℕ) (item : DrillItem) (within : k ≤ length xs) where
  same_length : length (xs ++ item ∷ []) ≡ length (insert xs k item)
  same_length = omega (arith, length-append xs (item ∷ []), length-insert xs k item within)

  same_count : sum_by drill_count_of (xs ++ item ∷ []) ≡ sum_by drill_count_of (insert xs k item)
  same_count = grind (arith, sum_by-append, sum_by-cons, sum_by-insert)

  -- they do not depend on its place
  limits_anywhere : KeepsDrillLimits (xs ++ item ∷ []) ↔ KeepsDrillLimits (insert xs k item)
  limits_anywhere = grind (arith, same_length, same_count)

module _ (c : DrillContent) where
  -- ---- insertions

  module _ (k : ℕ) (item : DrillItem) (told : Result Unit ItemFault) (has_place : Bool)
      (tells : told ≡ answer_of (first_holding (drill_item_checks c.tools item))) (at : has_place ≡ nat_le k (length c.items)) where
    abbrev room_there : Bool
    room_there = keeps_drill_limits (insert c.items k item)

    insertion_is : drill_step_answer c (Insert k item) ≡ item_answer told has_place room_there
    unfolding drill_step_checks drill_item_checks
    insertion_is = grind (arith, in_one_drill_order)

    module _ (room : Bool) (kept : IsTrue room ↔ KeepsDrillLimits (c.items ++ item ∷ [])) where
      same_room : has_place ≡ true → room_there ≡ room
      same_room there = grind (arith, leb-true, limits_anywhere, limit_law, same_test)

      pub inserted : item_answer told has_place room ≡ drill_step_answer c (Insert k item)
      inserted = sym (insertion_is ∙ by_room told has_place room_there room same_room)

  -- ---- places

  pub deleted : (count k : ℕ) → count ≡ length c.items → place_answer count k ≡ drill_step_answer c (Delete k)
  unfolding drill_step_checks
  deleted count k e = ap (λ n. place_answer n k) e

  pub reordered : (count k m : ℕ) → count ≡ length c.items
      → place_answer count (max k m) ≡ drill_step_answer c (Reorder k m)
  unfolding drill_step_checks
  reordered count k m e = grind (arith, farther_place)

  -- ---- moves

  module _ (k : ℕ) (by : Point) where
    abbrev move : DrillStep
    move = Move k by.x by.y

    by_place : (o : Option DrillItem) → slice_get c.items k ≡ o
        → drill_step_answer c move ≡ answer_of (first_holding (move_drill_checks c by o))
    unfolding drill_step_checks
    by_place o = ap (λ o. answer_of (first_holding (move_drill_checks c by o)))

    pub nothing_moved : slice_get c.items k ≡ None → Err NoItem ≡ drill_step_answer c move
    nothing_moved e = sym (by_place None e)

    module _ (x : DrillItem) (here : slice_get c.items k ≡ Some x) where
      abbrev landing : List Point
      landing = drill_points_of (shifted_drill_item by x)

      by_landing : (b : Bool) → are_on_board landing ≡ b
          → drill_step_answer c move ≡ answer_of (cond (not b) (Some OutOfBoard) None)
      by_landing b e =
          by_place (Some x) here ∙ ap (λ b. answer_of (cond (not b) (Some OutOfBoard) None)) e

      pub moved_too_far : IsSoundDrillContent c.tools c.items → (IsMove by → ⊥)
          → Err OutOfBoard ≡ drill_step_answer c move
      moved_too_far h far =
          let sound : IsSoundDrillItem c.tools x = all_here (IsSoundDrillItem c.tools) c.items k x h.items here in
          sym (by_landing false (false_from_ne_true (are_on_board landing)
          (λ t. far (short_drill_item by c.tools x sound ((all_on_board landing).0 t)))))

      module _ (b : Bool) (tells : IsTrue b ↔ All IsOnBoard landing) where
        same_landing : are_on_board landing ≡ b
        same_landing = same_test (are_on_board landing) b (all_on_board landing) tells

        pub moved_off : b ≡ false → Err OutOfBoard ≡ drill_step_answer c move
        moved_off e = sym (by_landing false (same_landing ∙ e))

        pub moved : b ≡ true → Ok tt ≡ drill_step_answer c move
        moved e = sym (by_landing true (same_landing ∙ e))

  -- ---- an edit without a refusal fits

  fits : (step : DrillStep) → IsSoundDrillContent c.tools c.items → IsDrillMet c step → IsDrillFit step c
  fits (Insert k item) h m = m.0
  fits (Delete k) h m = m
  fits (Move k dx dy) h m =
      let by = way dx dy in
      let sound : IsSoundDrillItem c.tools m.0 = all_here (IsSoundDrillItem c.tools) c.items k m.0 h.items m.1 in (
        shiftable_way by (short_drill_item by c.tools m.0 sound m.2),
        has_at (IsMovableDrillItem by) c.items k m.0 m.1 (movable_drill_item by c.tools m.0 sound m.2),
      )
  fits (Reorder k m) h both = both
  fits (Tool k t) h m = m.0
  fits (Diameter t d) h m = m.0

  pub passes_fits : (step : DrillStep) (done : Unit) → Ok done ≡ drill_step_answer c step
      → IsSoundDrillContent c.tools c.items → IsDrillFit step c
  passes_fits step done e h = fits step h (drill_met c step (none_told (first_holding (drill_step_checks c step)) done e))
