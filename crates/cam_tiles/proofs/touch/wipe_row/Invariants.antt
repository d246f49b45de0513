use Rattle.std.proofs.Common.{◌≡◌, ℕ, ◌+◌, ◌≤◌, ◌&&◌, nat_le, nat_lt, slice_index_or, count_by, if◌then◌else◌}
use Rattle.std.specs.Prelude.{None, is_none}
use Rattle.cam_tiles.proofs.touch.wipe_row.Given as goal

abbrev pub invariant-loop-k : goal.invariant-loop-k
invariant-loop-k l = record {
  each : (j : ℕ) → slice_index_or l.tiles j None
      ≡ (if nat_le (l.fn.start + l.fn.columns.first) j && nat_lt j l.k then None else slice_index_or l.fn.tiles j None);
  count : count_by is_none l.tiles ≡ count_by is_none l.fn.tiles + l.wiped;
  few : l.wiped + (l.fn.start + l.fn.columns.first) ≤ l.k;
}
