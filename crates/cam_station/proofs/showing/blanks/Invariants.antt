use Rattle.std.proofs.Common.{◌≡◌, ◌≤◌, replicate, vec_len}
use Rattle.std.specs.Prelude.{vec_capacity}
use Rattle.cam_tiles.specs.Tables.{blank}
use Rattle.cam_station.proofs.showing.blanks.Given as goal

-- the rasters so far are blank, and there is room for the others
abbrev pub invariant-loop : goal.invariant-loop
invariant-loop l = record {
  blank : l.rasters.items ≡ replicate l.counter (blank l.window);
  count : vec_len l.rasters ≡ l.counter;
  room : l.count ≤ vec_capacity l.rasters;
}
