-- Lengths as 128 and 64 bits compute them, to the nearest nanometre: they stay short.
use Rattle.std.proofs.Common.{◌≡◌, ℕ, ◌^◌, ◌<◌, ◌≤◌, ℤ, pos, ◌-ℤ◌, ◌≤ℤ◌, ◌<ℤ◌, true, false}
use Rattle.std.proofs.Common.{FitsSigned, to_z, of_z, w64, ap, ◌∙◌, arith}
use Rattle.std.specs.Int.{w128}
use Rattle.std.proofs.lemmas.Int.{ints}
use Rattle.std.specs.Int.RustNames.{unsigned_abs}
use Rattle.cam_units.specs.Nearest.{nearest_of, rounded}
use Rattle.cam_units.proofs.NearestLaws.{rounded_below}
use lib.IntN.{neg_ℤ}
use lib.Signed.{lt_z}

abbrev pub wide : ℤ → ℤ
wide z = to_z w128 (of_z w128 z)

pub fitting_length : (r n : ℤ) → r ≡ n → unsigned_abs n < 2 ^ 63 → FitsSigned w64 (wide r)
fitting_length r n e h = omega (arith, ints)

-- a rounded quotient with its sign, as 128 bits compute it
kept_size : (m : ℕ) → m ≤ 2 ^ 126 → to_z w128 m ≡ pos m
kept_size m h = omega (arith, ints)

kept_negative : (m : ℕ) → m ≤ 2 ^ 126 → wide (pos 0 -ℤ pos m) ≡ neg_ℤ (pos m)
kept_negative m h = omega (arith, ints)

pub own_size : (a : ℤ) (n : ℕ) → n ≡ unsigned_abs (wide a) → unsigned_abs a ≤ 2 ^ 126 → n ≡ unsigned_abs a
own_size a n e short = let same : wide a ≡ a = omega (arith, ints) in e ∙ ap unsigned_abs same

pub below_nought : (a : ℤ) → unsigned_abs a ≤ 2 ^ 126 → lt_z (wide a) (pos 0) ≡ true → a <ℤ pos 0
below_nought a short e = grind (arith, ints)

pub from_nought : (a : ℤ) → unsigned_abs a ≤ 2 ^ 126 → lt_z (wide a) (pos 0) ≡ false → pos 0 ≤ℤ a
from_nought a short e = grind (arith, ints)

size_negative : (m : ℕ) → unsigned_abs (neg_ℤ (pos m)) ≡ m
size_negative m = omega (arith, ints)

pub nearest_size : (a : ℤ) (b : ℕ) → 0 < b → unsigned_abs (nearest_of a b) ≤ unsigned_abs a
nearest_size a b h = grind (arith, rounded_below, size_negative)

pub negative_nearest : (a : ℤ) (b n q : ℕ) → n ≡ unsigned_abs a → q ≡ b → 0 < b → unsigned_abs a ≤ 2 ^ 126
    → a <ℤ pos 0 → wide (pos 0 -ℤ to_z w128 (rounded n q)) ≡ nearest_of a b
negative_nearest a b n q e f some short low = grind (arith, ints, rounded_below, kept_size, kept_negative)

pub positive_nearest : (a : ℤ) (b n q : ℕ) → n ≡ unsigned_abs a → q ≡ b → 0 < b → unsigned_abs a ≤ 2 ^ 126
    → pos 0 ≤ℤ a → to_z w128 (rounded n q) ≡ nearest_of a b
positive_nearest a b n q e f some short low = grind (arith, rounded_below, kept_size, ints)
