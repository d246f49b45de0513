use Rattle.std.proofs.Common.{◌≡◌, ◌≤◌, drop}
use Rattle.cam_numbers.specs.Blanks.{without_blanks}
use Rattle.cam_numbers.specs.Numbers.{value_limit}
use Rattle.cam_numbers.specs.Machinery.Counting.{digits_after, digits_of}
use Rattle.cam_numbers.proofs.whole.digits_of.Given as goal

-- the rest of the run makes of them what all of it makes
abbrev pub invariant-loop-byte : goal.invariant-loop-byte
invariant-loop-byte l = record {
  few : l.count ≤ l.byte-index;
  bound : l.value ≤ value_limit;
  same : digits_after l.count l.value (without_blanks l.blanks (drop l.byte-index l.run)) ≡ digits_of (without_blanks l.blanks l.run);
}
