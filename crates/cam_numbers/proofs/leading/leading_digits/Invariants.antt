use Rattle.std.proofs.Common.{◌≡◌, take, true}
use Rattle.cam_numbers.specs.Numbers.{are_digits, value_of}
use Rattle.cam_numbers.proofs.leading.leading_digits.Given as goal

-- the bytes so far are digits, and write the value
abbrev pub invariant-loop-place : goal.invariant-loop-place
invariant-loop-place l = record {
  digits : are_digits (take l.place l.text) ≡ true;
  value : l.value ≡ value_of (take l.place l.text);
}
