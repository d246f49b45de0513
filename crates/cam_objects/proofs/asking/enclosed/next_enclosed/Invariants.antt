use Rattle.std.proofs.Common.{◌≡◌, ℕ, ◌<◌, ◌≤◌, map}
use Rattle.cam_objects.specs.Bounds.{bounds_of}
use Rattle.cam_objects.specs.Cells.{box_at}
use Rattle.cam_objects.specs.Enclosed.{IsEnclosed}
use Rattle.cam_objects.proofs.asking.enclosed.next_enclosed.Given as goal

abbrev pub invariant-loop-place : goal.invariant-loop-place
invariant-loop-place g l =
    let lists = g.A.AskedItems.lists in record {
      same : lists l.items ≡ lists l.fn.items;
      others : (j : ℕ) → l.fn.from ≤ j → j < l.place → IsEnclosed (box_at (map bounds_of (lists l.fn.items)) j) l.fn.outer → ⊥;
    }
