-- what sums and products of lengths are computed to
use Rattle.std.proofs.Common.{◌≡◌, ℕ, ◌^◌, ◌<◌, ℤ, pos, ◌*ℤ◌, FitsSigned, of_z, to_z, w64, ap, sym, subst, ◌∙◌, arith}
use Rattle.std.specs.Int.{int_max, int_min}
use Rattle.std.specs.Int.RustNames.{unsigned_abs}
use Rattle.std.proofs.lemmas.Int.{clamps, fits_signed_from_abs, ints, to_z-of_z, unsigned_abs-mul}
use Rattle.std.proofs.lemmas.Nat.{mul-le}

-- a length as it is kept
pub kept : (a : ℤ) → unsigned_abs a < 2 ^ 63 → to_z w64 (of_z w64 a) ≡ a
kept a h = to_z-of_z w64 a (fits_signed_from_abs w64 a h)

-- ---- twice a coordinate of the board

pub twice_fits : (a : ℤ) → unsigned_abs a < 1000000000 → FitsSigned w64 (pos 2 *ℤ to_z w64 (of_z w64 a))
twice_fits a h = grind (arith, kept, fits_signed_from_abs, ints)

pub twice : (a : ℤ) → unsigned_abs a < 1000000000 → to_z w64 (of_z w64 (pos 2 *ℤ to_z w64 (of_z w64 a))) ≡ pos 2 *ℤ a
twice a h = ap (λ (z : ℤ). to_z w64 (of_z w64 (pos 2 *ℤ z))) (kept a (omega arith)) ∙ kept (pos 2 *ℤ a) (omega (arith, ints))

module _ (a b m : ℤ) (h : unsigned_abs a < 1000000000) (k : unsigned_abs b < 1000000000) where
  least_near : unsigned_abs (int_min a b) < 1000000000
  least_near = omega (arith, ints, clamps)

  least_twice : pos 2 *ℤ int_min a b ≡ int_min (pos 2 *ℤ a) (pos 2 *ℤ b)
  least_twice = omega (arith, ints, clamps)

  greatest_near : unsigned_abs (int_max a b) < 1000000000
  greatest_near = omega (arith, ints, clamps)

  greatest_twice : pos 2 *ℤ int_max a b ≡ int_max (pos 2 *ℤ a) (pos 2 *ℤ b)
  greatest_twice = omega (arith, ints, clamps)

  -- of the lesser of two
  module _ (e : m ≡ int_min (to_z w64 (of_z w64 a)) (to_z w64 (of_z w64 b))) where
    least : m ≡ int_min a b
    least = e ∙ (λ i. int_min (kept a (omega arith) i) (kept b (omega arith) i))

    pub min_near : unsigned_abs m < 1000000000
    min_near = subst (λ (z : ℤ). unsigned_abs z < 1000000000) (sym least) least_near

    pub min_kept : to_z w64 (of_z w64 m) ≡ int_min a b
    min_kept = kept m (omega (arith, min_near)) ∙ least

    pub min_kept_near : unsigned_abs (to_z w64 (of_z w64 m)) < 1000000000
    min_kept_near = subst (λ (z : ℤ). unsigned_abs z < 1000000000) (sym min_kept) least_near

    pub twice_min : to_z w64 (of_z w64 (pos 2 *ℤ to_z w64 (of_z w64 m))) ≡ int_min (pos 2 *ℤ a) (pos 2 *ℤ b)
    twice_min = twice m min_near ∙ ap (λ (z : ℤ). pos 2 *ℤ z) least ∙ least_twice

  -- and of the greater
  module _ (e : m ≡ int_max (to_z w64 (of_z w64 a)) (to_z w64 (of_z w64 b))) where
    greatest : m ≡ int_max a b
    greatest = e ∙ (λ i. int_max (kept a (omega arith) i) (kept b (omega arith) i))

    pub max_near : unsigned_abs m < 1000000000
    max_near = subst (λ (z : ℤ). unsigned_abs z < 1000000000) (sym greatest) greatest_near

    pub max_kept : to_z w64 (of_z w64 m) ≡ int_max a b
    max_kept = kept m (omega (arith, max_near)) ∙ greatest

    pub max_kept_near : unsigned_abs (to_z w64 (of_z w64 m)) < 1000000000
    max_kept_near = subst (λ (z : ℤ). unsigned_abs z < 1000000000) (sym max_kept) greatest_near

    pub twice_max : to_z w64 (of_z w64 (pos 2 *ℤ to_z w64 (of_z w64 m))) ≡ int_max (pos 2 *ℤ a) (pos 2 *ℤ b)
    twice_max = twice m max_near ∙ ap (λ (z : ℤ). pos 2 *ℤ z) greatest ∙ greatest_twice

-- ---- so many steps

module _ (n : ℕ) (s : ℤ) (few : n < 2 ^ 32) (short : unsigned_abs s < 1000000000) where
  pub steps_reach : unsigned_abs (pos n *ℤ s) < 4400000000000000000
  steps_reach =
      omega (arith, unsigned_abs-mul (pos n) s, mul-le n (unsigned_abs s) 4294967296 1000000000 (omega arith) (omega arith))

  module _ (k : ℤ) (e : k ≡ pos n) where
    steps_kept : to_z w64 (of_z w64 k) *ℤ to_z w64 (of_z w64 s) ≡ pos n *ℤ s
    steps_kept = (λ i. kept k (omega (arith, ints)) i *ℤ kept s (omega arith) i) ∙ ap (λ (z : ℤ). z *ℤ s) e

    pub steps_fit : FitsSigned w64 (to_z w64 (of_z w64 k) *ℤ to_z w64 (of_z w64 s))
    steps_fit = subst (FitsSigned w64) (sym steps_kept) (fits_signed_from_abs w64 (pos n *ℤ s) (omega (arith, steps_reach)))

    pub steps_are : to_z w64 (of_z w64 (to_z w64 (of_z w64 k) *ℤ to_z w64 (of_z w64 s))) ≡ pos n *ℤ s
    steps_are = ap (λ (z : ℤ). to_z w64 (of_z w64 z)) steps_kept ∙ kept (pos n *ℤ s) (omega (arith, steps_reach))
