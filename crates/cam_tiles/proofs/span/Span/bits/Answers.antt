use Rattle.std.proofs.Common.{ℕ, ◌*◌, ◌%◌, ◌-◌, ◌^◌, ◌<◌, ◌≤◌, ◌↔◌, arith}
use Rattle.std.specs.Int.{IsBitSet}
use Rattle.std.proofs.lemmas.Nat.Bits.{bit_at-lt, bit_at_mask_below, bit_at_mask_inside, ones_shl}
use Rattle.cam_rows.proofs.SetBits.{set_in_and, set_is_one}
use Rattle.cam_tiles.proofs.WordBits.{set_in_low}
use Rattle.cam_tiles.proofs.span.Span.bits.Goals as goal

-- the bits from one on
set_from : (first i : ℕ) → first ≤ 64 → i < 64 → IsBitSet ((2 ^ 64 - 1) * 2 ^ first % 2 ^ 64) i ↔ (first ≤ i)
set_from first i low near =
    rw (ones_shl 64 first low)
    (grind (arith, set_is_one, bit_at-lt, bit_at_mask_below first 64 i, bit_at_mask_inside first 64 i))

pub returns : goal.returns
returns c = λ k near. grind (arith, set_in_low, set_from, set_in_and)
