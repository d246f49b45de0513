use Rattle.std.proofs.Common.{ℕ, ◌<◌, ◌≤◌, slice_index}
use Rattle.std.specs.Int.{IsBitSet}
use Rattle.cam_tiles.proofs.masks.mask.Mask.is_marked_in.Given as goal

abbrev pub invariant-loop-row : goal.invariant-loop-row
invariant-loop-row l =
    (column row : ℕ) → l.initial.row ≤ row → row < l.row → IsBitSet l.run column → IsBitSet (slice_index l.self.rows row) column
