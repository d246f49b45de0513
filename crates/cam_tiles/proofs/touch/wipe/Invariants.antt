use Rattle.std.proofs.Common.{◌≡◌, ℕ, ◌+◌, ◌%◌, ◌/◌, ◌&&◌, nat_le, nat_lt, slice_index_or, count_by, if◌then◌else◌}
use Rattle.std.specs.Prelude.{None, is_none}
use Rattle.cam_tiles.specs.Machinery.Spans.{is_in_span}
use Rattle.cam_tiles.proofs.touch.wipe.Given as goal

abbrev pub invariant-loop-row : goal.invariant-loop-row
invariant-loop-row l = record {
  each : (k : ℕ) → slice_index_or l.tiles k None
      ≡ (if is_in_span l.fn.columns (k % l.fn.across)
      && (nat_le l.fn.rows.first (k / l.fn.across) && nat_lt (k / l.fn.across) l.row)
      then None else slice_index_or l.fn.tiles k None);
  count : count_by is_none l.tiles ≡ count_by is_none l.fn.tiles + l.wiped;
}
