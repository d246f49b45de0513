-- Products of short numbers, as 128 bits compute them.
use Rattle.std.proofs.Common.{ℕ, ◌*◌, ◌≡◌, ◌^◌, ◌<◌, ◌≤◌, ◌↔◌, IsTrue, Bool, ℤ, pos, ◌≤ℤ◌, ◌<ℤ◌, refl, ◌+ℤ◌, ◌-ℤ◌}
use Rattle.std.proofs.Common.{◌*ℤ◌, FitsSigned, to_z, of_z, w64, arith}
use Rattle.std.specs.Int.{w128}
use lib.Signed.{le_z, lt_z}
use Rattle.std.proofs.lemmas.Int.{ints, unsigned_abs-mul, fits_signed_from_abs, to_z-of_z}
use Rattle.std.proofs.lemmas.Nat.{mul-le, mul-lt}
use Rattle.std.specs.Int.RustNames.{unsigned_abs}
use Rattle.cam_units.specs.Board.{IsSize}
use Rattle.cam_shapes.specs.declared.vector.Vector.{Vector}
use Rattle.cam_shapes.specs.Plane.{IsShort, cross, dot, square}

abbrev pub wide : ℤ → ℤ
wide z = to_z w128 (of_z w128 z)

abbrev pub narrow : ℤ → ℤ
narrow z = to_z w64 (of_z w64 z)

-- a short number is itself in 64 bits, and a longer one in 128
kept_narrow : (z : ℤ) → unsigned_abs z < 2 ^ 33 → narrow z ≡ z
kept_narrow z h = omega (arith, ints)

pub kept_wide : (z : ℤ) → unsigned_abs z < 2 ^ 126 → wide z ≡ z
kept_wide z h = omega (arith, ints)

-- a square against a bound, where both were passed on in 128 bits
pub passed_square : (b : Bool) (r m u v : ℤ) → unsigned_abs r < 2 ^ 126 → unsigned_abs m < 2 ^ 126
    → r ≡ u → m ≡ v → (IsTrue b ↔ square (wide r) ≤ℤ wide m) → (IsTrue b ↔ square u ≤ℤ v)
passed_square b r m u v p q e f told = rw (kept_wide r p, kept_wide m q, e, f) at told

pub square_is : (z : ℤ) → square z ≡ pos (unsigned_abs z * unsigned_abs z)
square_is z = grind arith

-- a root of 2^63 or more has a square of 2^126 or more
pub long_root : (z m : ℤ) → unsigned_abs m < 2 ^ 126 → 2 ^ 63 ≤ unsigned_abs z → square z ≤ℤ m → ⊥
long_root z m small long h = grind (arith, ints, square_is, mul-le)

-- a root below 2^63 is itself in 128 bits, and its square is below 2^126
pub short_root : (z : ℤ) (n : ℕ) → FitsSigned w128 z → n ≡ unsigned_abs (wide z) → n < 2 ^ 63
    → (wide z ≡ z) × (unsigned_abs (square z) < 2 ^ 126)
short_root z n whole e h = grind (arith, to_z-of_z, unsigned_abs-mul, mul-lt)

pub short_product : (a b : ℤ) → unsigned_abs a < 2 ^ 33 → unsigned_abs b < 2 ^ 33 → unsigned_abs (a *ℤ b) < 2 ^ 66
short_product a b p q = grind (arith, unsigned_abs-mul, mul-lt)

-- the product of two coordinates
pub kept_product : (a b r t : ℤ) → unsigned_abs a < 2 ^ 33 → unsigned_abs b < 2 ^ 33
    → r ≡ narrow a → t ≡ narrow b → wide (wide r *ℤ wide t) ≡ a *ℤ b
kept_product a b r t p q e f = grind (arith, kept_narrow, ints, short_product, kept_wide)

pub kept_factors : (a b r t : ℤ) → unsigned_abs a < 2 ^ 33 → unsigned_abs b < 2 ^ 33
    → r ≡ narrow a → t ≡ narrow b → wide r *ℤ wide t ≡ a *ℤ b
kept_factors a b r t p q e f = grind (arith, kept_narrow, kept_wide)

-- a size, and its square
pub short_size : (z : ℤ) → IsSize z → unsigned_abs z < 2 ^ 28
short_size z h = omega (arith, ints, h.0, h.1)

pub size_square : (z : ℤ) → IsSize z → unsigned_abs (square z) < 2 ^ 56
size_square z h = grind (arith, unsigned_abs-mul, mul-lt, short_size)

-- the product of the square of a size and of a product of two coordinates
pub long_product : (a b : ℤ) → unsigned_abs a < 2 ^ 56 → unsigned_abs b < 2 ^ 67 → unsigned_abs (a *ℤ b) < 2 ^ 123
long_product a b p q = grind (arith, unsigned_abs-mul, mul-lt)

long_factors : (a b : ℤ) → unsigned_abs a < 2 ^ 56 → unsigned_abs b < 2 ^ 67 → wide a *ℤ wide b ≡ a *ℤ b
long_factors a b p q = rw (kept_wide a (omega arith), kept_wide b (omega arith)) refl

pub kept_long_product : (a b : ℤ) → unsigned_abs a < 2 ^ 56 → unsigned_abs b < 2 ^ 67 → wide (wide a *ℤ wide b) ≡ a *ℤ b
kept_long_product a b p q = grind (arith, long_product, long_factors, kept_wide)

pub long_product_fits : (a b : ℤ) → unsigned_abs a < 2 ^ 56 → unsigned_abs b < 2 ^ 67
    → FitsSigned w128 (wide a *ℤ wide b)
long_product_fits a b p q =
    let bound : unsigned_abs (a *ℤ b) < 2 ^ 123 = long_product a b p q in
    rw (long_factors a b p q) (fits_signed_from_abs w128 (a *ℤ b) (omega arith))

sum_bound : (p q : ℤ) → unsigned_abs p < 2 ^ 66 → unsigned_abs q < 2 ^ 66 → unsigned_abs (p +ℤ q) < 2 ^ 67
sum_bound p q h k = omega (arith, ints)

difference_bound : (p q : ℤ) → unsigned_abs p < 2 ^ 66 → unsigned_abs q < 2 ^ 66 → unsigned_abs (p -ℤ q) < 2 ^ 67
difference_bound p q h k = omega (arith, ints)

pub dot_bound : (v w : Vector) → IsShort v → IsShort w → unsigned_abs (dot v w) < 2 ^ 67
dot_bound v w h k = grind (arith, sum_bound, short_product)

pub cross_bound : (v w : Vector) → IsShort v → IsShort w → unsigned_abs (cross v w) < 2 ^ 67
cross_bound v w h k = grind (arith, difference_bound, short_product)

pub fits : (z : ℤ) → unsigned_abs z < 2 ^ 67 → FitsSigned w128 z
fits z h = fits_signed_from_abs w128 z (omega arith)

pub kept : (z : ℤ) → unsigned_abs z < 2 ^ 67 → wide z ≡ z
kept z h = kept_wide z (omega arith)

-- the square of a size is as short
pub short_square : (z : ℤ) → unsigned_abs z < 2 ^ 56 → unsigned_abs z < 2 ^ 67
short_square z h = omega arith

-- a difference of three products, as 128 bits compute it
pub differences_bound : (a b c : ℤ) → unsigned_abs a < 2 ^ 67 → unsigned_abs b < 2 ^ 67 → unsigned_abs c < 2 ^ 67
    → unsigned_abs (a -ℤ b -ℤ c) < 2 ^ 70
differences_bound a b c p q r = omega (arith, ints)

one_difference : (a b : ℤ) → unsigned_abs a < 2 ^ 67 → unsigned_abs b < 2 ^ 67 → wide (wide a -ℤ wide b) ≡ a -ℤ b
one_difference a b p q = omega (arith, ints)

pub kept_differences : (a b c : ℤ) → unsigned_abs a < 2 ^ 67 → unsigned_abs b < 2 ^ 67 → unsigned_abs c < 2 ^ 67
    → wide (wide (wide a -ℤ wide b) -ℤ wide c) ≡ a -ℤ b -ℤ c
kept_differences a b c p q r = grind (arith, differences_bound, one_difference, kept, kept_wide)

pub difference_fits : (a b : ℤ) → unsigned_abs a < 2 ^ 67 → unsigned_abs b < 2 ^ 67 → FitsSigned w128 (wide a -ℤ wide b)
difference_fits a b p q = omega (arith, ints)

pub differences_fit : (a b c : ℤ) → unsigned_abs a < 2 ^ 67 → unsigned_abs b < 2 ^ 67 → unsigned_abs c < 2 ^ 67
    → FitsSigned w128 (wide (wide a -ℤ wide b) -ℤ wide c)
differences_fit a b c p q r = grind (arith, differences_bound, one_difference, kept, fits_signed_from_abs)

-- four times a product, as 128 bits compute it
fourfold_short : (z : ℤ) → unsigned_abs z < 2 ^ 123 → unsigned_abs (pos 4 *ℤ z) < 2 ^ 126
fourfold_short z h = omega (arith, ints)

pub fourfold_fits : (z : ℤ) → unsigned_abs z < 2 ^ 123 → FitsSigned w128 (pos 4 *ℤ wide z)
fourfold_fits z h = omega (arith, ints)

pub kept_fourfold : (z : ℤ) → unsigned_abs z < 2 ^ 123
    → (wide (pos 4 *ℤ wide z) ≡ pos 4 *ℤ z) × (unsigned_abs (wide (pos 4 *ℤ wide z)) < 2 ^ 126)
kept_fourfold z h = grind (arith, ints, fourfold_short)

-- one product against another, as 128 bits compare them
pub at_most_is : (a b : ℤ) → IsTrue (le_z a b) ↔ a ≤ℤ b
at_most_is a b = ((λ h. grind (arith, ints)), (λ h. grind (arith, ints)))

pub less_is : (a b : ℤ) → IsTrue (lt_z a b) ↔ a <ℤ b
less_is a b = ((λ h. grind (arith, ints)), (λ h. grind (arith, ints)))

pub passed_at_most : (a b u v : ℤ) → unsigned_abs a < 2 ^ 67 → unsigned_abs b < 2 ^ 67 → a ≡ u → b ≡ v
    → IsTrue (le_z (wide a) (wide b)) ↔ u ≤ℤ v
passed_at_most a b u v p q e f = rw (kept a p, kept b q, e, f) (at_most_is u v)

pub passed_less : (a b u v : ℤ) → unsigned_abs a < 2 ^ 67 → unsigned_abs b < 2 ^ 67 → a ≡ u → b ≡ v
    → IsTrue (lt_z (wide a) (wide b)) ↔ u <ℤ v
passed_less a b u v p q e f = rw (kept a p, kept b q, e, f) (less_is u v)

-- a sum of two products against a third, as 128 bits compare it
kept_sum : (a b : ℤ) → unsigned_abs a < 2 ^ 67 → unsigned_abs b < 2 ^ 67 → wide (wide a +ℤ wide b) ≡ a +ℤ b
kept_sum a b p q = omega (arith, ints)

pub sum_fits : (a b : ℤ) → unsigned_abs a < 2 ^ 67 → unsigned_abs b < 2 ^ 67 → FitsSigned w128 (wide a +ℤ wide b)
sum_fits a b p q = rw (kept a p, kept b q) (fits_signed_from_abs w128 (a +ℤ b) (omega (arith, ints)))

pub passed_sum : (a b c u v w : ℤ) → unsigned_abs a < 2 ^ 67 → unsigned_abs b < 2 ^ 67 → unsigned_abs c < 2 ^ 67
    → a ≡ u → b ≡ v → c ≡ w → IsTrue (le_z (wide (wide a +ℤ wide b)) (wide c)) ↔ (u +ℤ v) ≤ℤ w
passed_sum a b c u v w p q r e f g = grind (arith, kept_sum, kept, at_most_is)
