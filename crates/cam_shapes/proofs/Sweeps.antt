-- Strokes of rectangles: what the test computes.
use Rattle.std.proofs.Common.{◌≡◌, ℕ, ◌+◌, ◌*◌, ◌<◌, ◌^◌, ℤ, pos, ◌+ℤ◌, ◌-ℤ◌, ◌*ℤ◌, Fits, FitsSigned, w64, subst, sym, ◌∙◌, arith}
use Rattle.std.proofs.Common.{◌≤ℤ◌, ◌↔◌, IsTrue}
use Rattle.std.specs.Int.{int_max, int_min}
use Rattle.std.specs.Int.RustNames.{unsigned_abs}
use Rattle.std.proofs.lemmas.Int.{clamps, ints}
use Rattle.std.proofs.lemmas.Nat.{mul-lt}
use Rattle.std.proofs.lemmas.Bool.{le-leb, leb-true}
use lib.Dec.{leb}
use Rattle.cam_units.specs.declared.point.Spot.{Spot}
use Rattle.cam_units.specs.Board.{IsSize}
use Rattle.cam_shapes.proofs.Widths.{kept, narrow, wide}

pub same_spot : (p q : Spot) → p.x ≡ q.x → p.y ≡ q.y → p ≡ q
same_spot p q e f = λ i. record { x = e i; y = f i }

-- twice a coordinate
abbrev twice : ℤ → ℤ
twice z = pos 2 *ℤ z

kept_twice : (a : ℤ) → unsigned_abs a < 1000000000 → narrow (twice (narrow a)) ≡ twice a
kept_twice a h = omega (arith, ints)

least_near : (a b : ℤ) → unsigned_abs a < 1000000000 → unsigned_abs b < 1000000000
    → unsigned_abs (int_min (twice a) (twice b)) < 2000000000
least_near a b h k = omega (arith, ints, clamps)

greatest_near : (a b : ℤ) → unsigned_abs a < 1000000000 → unsigned_abs b < 1000000000
    → unsigned_abs (int_max (twice a) (twice b)) < 2000000000
greatest_near a b h k = omega (arith, ints, clamps)

sum_fits : (m w : ℤ) → unsigned_abs m < 2000000000 → IsSize w → FitsSigned w64 (narrow m +ℤ narrow w)
sum_fits m w h size = omega (arith, ints, size.0, size.1)

kept_sum : (m w : ℤ) → unsigned_abs m < 2000000000 → IsSize w → narrow (narrow m +ℤ narrow w) ≡ m +ℤ w
kept_sum m w h size = omega (arith, ints, size.0, size.1)

difference_fits : (m w : ℤ) → unsigned_abs m < 2000000000 → IsSize w → FitsSigned w64 (narrow m -ℤ narrow w)
difference_fits m w h size = omega (arith, ints, size.0, size.1)

kept_difference : (m w : ℤ) → unsigned_abs m < 2000000000 → IsSize w → narrow (narrow m -ℤ narrow w) ≡ m -ℤ w
kept_difference m w h size = omega (arith, ints, size.0, size.1)

-- of the lesser and of the greater coordinate of the ends a and b, and a side w
module _ (a b m w : ℤ) (h : unsigned_abs a < 1000000000) (k : unsigned_abs b < 1000000000) (size : IsSize w) where
  module _ (e : m ≡ int_min (narrow (twice (narrow a))) (narrow (twice (narrow b)))) where
    least : m ≡ int_min (twice a) (twice b)
    least = e ∙ (λ i. int_min (kept_twice a h i) (kept_twice b k i))

    pub low_fits : FitsSigned w64 (narrow m -ℤ narrow w)
    low_fits = difference_fits m w (subst (λ (z : ℤ). unsigned_abs z < 2000000000) (sym least) (least_near a b h k)) size

    pub kept_low : narrow (narrow m -ℤ narrow w) ≡ int_min (twice a) (twice b) -ℤ w
    kept_low = grind (arith, narrow, least, kept_difference, least_near)

  module _ (e : m ≡ int_max (narrow (twice (narrow a))) (narrow (twice (narrow b)))) where
    greatest : m ≡ int_max (twice a) (twice b)
    greatest = e ∙ (λ i. int_max (kept_twice a h i) (kept_twice b k i))

    pub high_fits : FitsSigned w64 (narrow m +ℤ narrow w)
    high_fits = sum_fits m w (subst (λ (z : ℤ). unsigned_abs z < 2000000000) (sym greatest) (greatest_near a b h k)) size

    pub kept_high : narrow (narrow m +ℤ narrow w) ≡ int_max (twice a) (twice b) +ℤ w
    kept_high = grind (arith, narrow, greatest, kept_sum, greatest_near)

-- the products of sides and legs of a way
pub short_side : (m : ℕ) (w : ℤ) → m ≡ unsigned_abs (narrow w) → IsSize w → m < 2 ^ 28
short_side m w e size = omega (arith, ints, size.0, size.1)

pub short_leg : (m : ℕ) (z : ℤ) → m ≡ unsigned_abs (narrow z) → unsigned_abs z < 2 ^ 33 → m < 2 ^ 33
short_leg m z e h = omega (arith, ints)

pub part_fits : (m n : ℕ) → m < 2 ^ 28 → n < 2 ^ 33 → Fits w64 (m * n)
part_fits m n a b = omega (arith, mul-lt m n (2 ^ 28) (2 ^ 33) a b)

pub reach_fits : (m n p q : ℕ) → m < 2 ^ 28 → n < 2 ^ 33 → p < 2 ^ 28 → q < 2 ^ 33 → Fits w64 (m * n + p * q)
reach_fits m n p q a b c d =
    omega (arith, mul-lt m n (2 ^ 28) (2 ^ 33) a b, mul-lt p q (2 ^ 28) (2 ^ 33) c d)

-- a cross product against the reach of a corner, as 128 bits compare them
at_most_number : (m n : ℕ) → IsTrue (leb m n) ↔ pos m ≤ℤ pos n
at_most_number m n = ((λ h. omega (arith, ints, leb-true m n h)), (λ h. le-leb m n (omega (arith, ints))))

pub passed_reach : (m n k : ℕ) (r z w : ℤ) → unsigned_abs r < 2 ^ 67 → m ≡ unsigned_abs (wide r) → r ≡ z → n ≡ k → pos k ≡ w
    → IsTrue (leb m n) ↔ pos (unsigned_abs z) ≤ℤ w
passed_reach m n k r z w h e f g is = rw (e, kept r h, f, g, sym is) (at_most_number (unsigned_abs z) k)
