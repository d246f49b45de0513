use Rattle.std.proofs.Common.{◌≡◌, ◌+◌, ◌*◌, ◌<◌, ◌≤◌, ℕ, slice_index}
use Rattle.cam_objects.proofs.cells.numbers.next_place.Given as goal

abbrev pub invariant-loop-chunk : goal.invariant-loop-chunk
invariant-loop-chunk l =
    (k : ℕ) → l.place ≤ k → k < l.place + l.chunk * 64 → slice_index l.numbers k ≡ l.number → ⊥
