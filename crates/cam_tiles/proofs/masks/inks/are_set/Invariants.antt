use Rattle.std.proofs.Common.{◌≡◌, ◌+◌, ◌*◌, ◌<◌, ◌≤◌, ℕ, true, slice_index}
use Rattle.std.specs.Int.{IsBitSet}
use Rattle.cam_tiles.specs.Machinery.Marks.{is_set}
use Rattle.cam_tiles.proofs.masks.inks.are_set.Given as goal

abbrev pub invariant-loop-row : goal.invariant-loop-row
invariant-loop-row l =
    (row i : ℕ) → l.fn.rows.first ≤ row → row < l.row → i < 64 → IsBitSet l.bits i
    → is_set (slice_index l.words (64 * l.tile + row)) i ≡ true
