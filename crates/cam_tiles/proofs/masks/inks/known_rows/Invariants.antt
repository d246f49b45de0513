use Rattle.std.proofs.Common.{◌≡◌, ℕ, ◌<◌, true, slice_index}
use Rattle.cam_tiles.specs.Machinery.Marks.{is_set}
use Rattle.cam_tiles.proofs.masks.inks.known_rows.Given as goal

abbrev pub invariant-loop-row : goal.invariant-loop-row
invariant-loop-row l = (row i : ℕ) → row < l.row → i < 64 → is_set (slice_index l.words row) i ≡ true
