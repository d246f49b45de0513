use Rattle.std.proofs.Common.{◌≡◌, ◌+◌, ◌*◌, ◌<◌, ◌≤◌, drop}
use Rattle.cam_numbers.specs.Blanks.{without_blanks}
use Rattle.cam_numbers.specs.Machinery.Counting.{decimals_after, decimals_of}
use Rattle.cam_numbers.proofs.decimals.decimals_of.Given as goal

-- the rest of the run makes of them what all of it makes, and leaves room for what the next decimals are worth
abbrev pub invariant-loop-byte : goal.invariant-loop-byte
invariant-loop-byte l = record {
  few : l.count ≤ l.byte-index;
  low : l.value < 1000000000;
  room : l.value + 10 * l.worth ≤ 1000000000;
  same : decimals_after l.count l.value l.worth (without_blanks l.blanks (drop l.byte-index l.run)) ≡ decimals_of (without_blanks l.blanks l.run);
}
