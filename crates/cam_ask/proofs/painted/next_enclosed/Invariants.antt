use Rattle.std.proofs.Common.{◌≡◌, ℕ, ◌<◌, ◌≤◌, map}
use Rattle.cam_objects.specs.Cells.{box_at}
use Rattle.cam_objects.specs.Enclosed.{IsEnclosed}
use Rattle.cam_objects.specs.Leaves.{meaning_in}
use Rattle.cam_ask.specs.Painted.{painted_box}
use Rattle.cam_ask.proofs.painted.next_enclosed.Given as goal

abbrev pub invariant-loop-place : goal.invariant-loop-place
invariant-loop-place l = record {
  same : l.boxes ≡ l.layer;
  others : (j : ℕ) → l.from ≤ j → j < l.place
      → IsEnclosed (box_at (map (painted_box (meaning_in l.layer.apertures)) l.layer.items.items) j) l.outer → ⊥;
}
