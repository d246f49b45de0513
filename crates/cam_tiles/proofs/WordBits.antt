-- The lowest bits of a word.
use Rattle.std.proofs.Common.{◌≡◌, ℕ, ◌-◌, ◌/◌, ◌^◌, ◌<◌, ◌≤◌, ◌↔◌, arith}
use Rattle.std.specs.Int.{IsBitSet}
use Rattle.std.proofs.lemmas.Nat.Bits.{bit_at-lt, bit_at_ones, bit_at_ones_above, ones_shr}
use Rattle.cam_rows.proofs.SetBits.{set_is_one}

set_in_ones : (count i : ℕ) → IsBitSet (2 ^ count - 1) i ↔ (i < count)
set_in_ones count i = grind (arith, set_is_one, bit_at-lt, bit_at_ones, bit_at_ones_above)

-- so many of them, as a shift computes them
pub set_in_low : (count i : ℕ) → count ≤ 64 → IsBitSet ((2 ^ 64 - 1) / 2 ^ (64 - count)) i ↔ (i < count)
set_in_low count i few =
    let rest : 64 - (64 - count) ≡ count = omega arith in
    rw (ones_shr 64 (64 - count) (omega arith), rest) (set_in_ones count i)
