-- Coordinates that are kept or negated, as 64 bits compute them.
use Rattle.std.proofs.Common.{◌≡◌, ◌<◌, ◌^◌, ℤ, pos, ◌+ℤ◌, ◌-ℤ◌, ◌*ℤ◌, w64, arith}
use mir.Val.{to_z, of_z}
use Rattle.std.specs.Int.RustNames.{unsigned_abs}
use Rattle.std.proofs.lemmas.Int.{ints}
use Rattle.cam_units.specs.Turns.{minus}

abbrev kept : ℤ → ℤ
kept z = to_z w64 (of_z w64 z)

abbrev negated : ℤ → ℤ
negated z = kept (pos 0 -ℤ kept z)

-- as rows of a turn give them
pub first_kept : (z w : ℤ) → unsigned_abs z < 2 ^ 63 → kept z ≡ pos 1 *ℤ z +ℤ pos 0 *ℤ w
first_kept z w h = omega (arith, ints)

pub first_negated : (z w : ℤ) → unsigned_abs z < 2 ^ 63 → negated z ≡ minus *ℤ z +ℤ pos 0 *ℤ w
first_negated z w h = omega (arith, ints)

pub second_kept : (z w : ℤ) → unsigned_abs z < 2 ^ 63 → kept z ≡ pos 0 *ℤ w +ℤ pos 1 *ℤ z
second_kept z w h = omega (arith, ints)

pub second_negated : (z w : ℤ) → unsigned_abs z < 2 ^ 63 → negated z ≡ pos 0 *ℤ w +ℤ minus *ℤ z
second_negated z w h = omega (arith, ints)
