use Rattle.std.proofs.Common.{◌-◌, arith}
use Rattle.cam_numbers.proofs.Kept.{kept_at, kept_at_end}
use Rattle.cam_numbers.proofs.Counting.{digits_after-digit, digits_after-other, digits_after-end}
use Rattle.cam_numbers.proofs.whole.digits_of.Goals as goal

pub returns-then-not-is_ascii_digit : goal.returns-then-not-is_ascii_digit
returns-then-not-is_ascii_digit c = grind (arith, digits_after-other, kept_at)

pub loop-byte-preserved : goal.loop-byte-preserved
loop-byte-preserved c = grind (arith, digits_after-digit, kept_at)

pub returns : goal.returns
returns c = grind (arith, digits_after-end, kept_at_end)
