use Rattle.std.proofs.Common.{◌≡◌, ◌&&◌, ℕ, ◌<◌, length, slice_index}
use Rattle.cam_tiles.specs.Machinery.Marks.{is_set}
use Rattle.cam_tiles.proofs.masks.inks.Inks.rows.Given as goal

abbrev pub invariant-loop-row : goal.invariant-loop-row
invariant-loop-row l = record {
  size : length l.rows ≡ 64;
  done : (row i : ℕ) → row < l.row → i < 64
      → is_set (slice_index l.rows row) i ≡ (is_set (slice_index l.decided row) i && is_set (slice_index l.dark row) i);
}
