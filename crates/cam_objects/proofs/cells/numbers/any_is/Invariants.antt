use Rattle.std.proofs.Common.{◌≡◌, ◌<◌, ◌≤◌, ℕ, false, slice_index}
use Rattle.cam_objects.proofs.cells.numbers.any_is.Given as goal

abbrev pub invariant-loop-place : goal.invariant-loop-place
invariant-loop-place l =
    l.any ≡ false → (k : ℕ) → l.first ≤ k → k < l.place → slice_index l.numbers k ≡ l.number → ⊥
