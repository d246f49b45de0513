use Rattle.std.proofs.Common.{◌≡◌, ◌<◌, ◌≤◌, ℕ, slice_index}
use Rattle.cam_objects.proofs.cells.numbers.first_place.Given as goal

abbrev pub invariant-loop-place : goal.invariant-loop-place
invariant-loop-place l = (k : ℕ) → l.first ≤ k → k < l.place → slice_index l.numbers k ≡ l.number → ⊥
