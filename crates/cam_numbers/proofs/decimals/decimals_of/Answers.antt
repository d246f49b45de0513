use Rattle.std.proofs.Common.{◌-◌, arith}
use Rattle.cam_numbers.proofs.Kept.{kept_at, kept_at_end}
use Rattle.cam_numbers.proofs.Counting.{decimals_after-digit, decimals_after-other, decimals_after-end, small_share}
use Rattle.cam_numbers.proofs.decimals.decimals_of.Goals as goal

pub returns-then-not-is_ascii_digit-clause-value : goal.returns-then-not-is_ascii_digit-clause-value
returns-then-not-is_ascii_digit-clause-value c = grind (arith, decimals_after-other, kept_at)

pub loop-byte-preserved : goal.loop-byte-preserved
loop-byte-preserved c = grind (arith, small_share, decimals_after-digit, kept_at)

pub returns-clause-value : goal.returns-clause-value
returns-clause-value c = grind (arith, decimals_after-end, kept_at_end)
