-- Lengths to the nearest nanometre, ties away from zero (Gerber Layer Format Specification, "Unit (MO)" and
-- "Format Specification (FS)": one inch is 25.4 mm, and a coordinate has the decimals that FS tells).
use Rattle.std.specs.Prelude.{◌≡◌, Option, unwrap_or, ℕ, suc, ◌+◌, ◌*◌, ◌/◌, ◌^◌, ◌<◌, ◌≤◌, ℤ, pos, negsuc, neg_ℤ, ◌-ℤ◌, ◌*ℤ◌}
use Rattle.std.specs.Int.RustNames.{unsigned_abs}
use Rattle.cam_units.specs.declared.length.Unit.{Unit as FileUnit}
use Rattle.cam_units.specs.declared.length.Unit.TheVariants.{Mm, Inch}

-- how far twice a / b is from twice m, in parts of b
abbrev pub distance : ℤ → ℕ → ℤ → ℕ
distance a b m = unsigned_abs (pos 2 *ℤ a -ℤ pos 2 *ℤ pos b *ℤ m)

-- m is a whole number nearest to a / b, and of two such the one farther from zero
pub record IsNearest (a : ℤ) (b : ℕ) (m : ℤ) : Type 0 where
  pub close : distance a b m ≤ b
  pub farthest : (k : ℤ) → distance a b k ≤ b → unsigned_abs k ≤ unsigned_abs m

-- n / b to the nearest whole number, halves upwards
abbrev pub rounded : ℕ → ℕ → ℕ
rounded n b = (2 * n + b) / (2 * b)

-- the nearest whole number itself
abbrev pub nearest_of : ℤ → ℕ → ℤ
nearest_of (pos n) b = pos (rounded n b)
nearest_of (negsuc n) b = neg_ℤ (pos (rounded (suc n) b))

-- the one whole number that is nearest
abbrev pub NearestLaw : Type 0
NearestLaw =
    (a : ℤ) (b : ℕ) → 0 < b
    → IsNearest a b (nearest_of a b) × ((m : ℤ) → IsNearest a b m → m ≡ nearest_of a b)

-- before a file tells its unit, lengths are as in mm
abbrev pub unit_or_mm : Option FileUnit → FileUnit
unit_or_mm unit = unwrap_or unit Mm

-- the nanometres in a unit, which a coordinate without decimals counts
abbrev pub nm_per_unit : FileUnit → ℕ
nm_per_unit Mm = 1000000
nm_per_unit Inch = 25400000

-- a coordinate of so many decimals, in nanometres
abbrev pub coord_of : ℤ → ℕ → FileUnit → ℤ
coord_of n decimals unit = nearest_of (n *ℤ pos (nm_per_unit unit)) (10 ^ decimals)

-- a value in 10^-9 units, in nanometres
abbrev pub fix9_of : ℤ → FileUnit → ℤ
fix9_of v Mm = nearest_of v 1000
fix9_of v Inch = nearest_of (v *ℤ pos 254) 10000
