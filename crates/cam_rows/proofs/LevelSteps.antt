-- So many steps down from a crossing, as 128 bits compute them.
use Rattle.std.proofs.Common.{◌≡◌, ℕ, ◌+◌, ◌^◌, ◌<◌, ◌≤◌, ℤ, pos, ◌+ℤ◌, ◌-ℤ◌, ◌*ℤ◌, FitsSigned, ap, ◌∙◌, to_z, arith}
use Rattle.std.specs.Int.{w128}
use Rattle.std.specs.Int.RustNames.{unsigned_abs}
use Rattle.std.proofs.lemmas.Int.{fits_signed_from_abs, ints, unsigned_abs-mul}
use Rattle.std.proofs.lemmas.Nat.{mul-le}
use Rattle.cam_shapes.proofs.Widths.{narrow, wide}
use Rattle.cam_rows.specs.declared.slope.Crossing.{Crossing}
use Rattle.cam_rows.specs.declared.slope.Steps.{Steps}
use Rattle.cam_rows.specs.Machinery.Slopes.{AreSteps, IsCrossing, whole}

kept : (z : ℤ) → unsigned_abs z ≤ 2 ^ 124 → wide z ≡ z
kept z h = omega (arith, ints)

-- a number of 64 bits, as it is passed on in 128
kept_short : (z : ℤ) → unsigned_abs z ≤ 2 ^ 62 → wide (narrow z) ≡ z
kept_short z h = omega (arith, ints)

short_product : (a b : ℤ) → unsigned_abs a ≤ 2 ^ 40 → unsigned_abs b ≤ 2 ^ 61 → unsigned_abs (a *ℤ b) ≤ 2 ^ 101
short_product a b p q = grind (arith, unsigned_abs-mul, mul-le)

short_steps : (n : ℕ) (z : ℤ) → n < 2 ^ 20 → unsigned_abs z ≤ 2 ^ 102 → unsigned_abs (pos n *ℤ z) ≤ 2 ^ 122
short_steps n z few short = grind (arith, ints, unsigned_abs-mul, mul-le)

module _ (c : Crossing) (t : Steps) (n : ℕ) (steps : AreSteps t) (here : IsCrossing t (2 ^ 61 + 1) c) (few : n < 2 ^ 20) where
  divisor_short : unsigned_abs t.divisor ≤ 2 ^ 61
  divisor_short = omega (arith, ints, steps.divisor.0, steps.divisor.1)

  rest_short : unsigned_abs t.rest ≤ 2 ^ 61
  rest_short = omega (arith, ints, steps.rest.0, steps.rest.1, steps.divisor.1)

  own_short : unsigned_abs c.rest ≤ 2 ^ 61
  own_short = omega (arith, ints, here.low, here.high, steps.divisor.1)

  product_short : unsigned_abs (t.columns *ℤ t.divisor) ≤ 2 ^ 101
  product_short = short_product t.columns t.divisor steps.columns divisor_short

  change_short : unsigned_abs (whole t.columns t.divisor t.rest) ≤ 2 ^ 102
  change_short = omega (arith, ints, product_short, rest_short)

  pub least_is : (g : ℤ) → g ≡ narrow t.divisor → wide (pos 0 -ℤ wide g) ≡ pos 0 -ℤ t.divisor
  least_is g is = grind (arith, wide, kept_short, divisor_short, kept, ints)

  module _ (a b e f : ℤ) (is_a : a ≡ narrow t.columns) (is_b : b ≡ narrow t.divisor) (is_e : e ≡ narrow t.rest)
      (is_f : f ≡ narrow c.rest) where
    columns_is : wide a ≡ t.columns
    columns_is = ap wide is_a ∙ kept_short t.columns (omega (arith, steps.columns))

    divisor_is : wide b ≡ t.divisor
    divisor_is = ap wide is_b ∙ kept_short t.divisor (omega (arith, divisor_short))

    rest_is : wide e ≡ t.rest
    rest_is = ap wide is_e ∙ kept_short t.rest (omega (arith, rest_short))

    own_is : wide f ≡ c.rest
    own_is = ap wide is_f ∙ kept_short c.rest (omega (arith, own_short))

    product_is : wide (wide a *ℤ wide b) ≡ t.columns *ℤ t.divisor
    product_is = rw (columns_is, divisor_is) (kept (t.columns *ℤ t.divisor) (omega (arith, product_short)))

    change_is : wide (wide (wide a *ℤ wide b) +ℤ wide e) ≡ whole t.columns t.divisor t.rest
    change_is = rw (product_is, rest_is) (kept (whole t.columns t.divisor t.rest) (omega (arith, change_short)))

    count_is : to_z w128 n ≡ pos n
    count_is = omega (arith, ints, few)

    steps_is : wide (to_z w128 n *ℤ wide (wide (wide a *ℤ wide b) +ℤ wide e)) ≡ pos n *ℤ whole t.columns t.divisor t.rest
    steps_is = rw (count_is, change_is) (kept (pos n *ℤ whole t.columns t.divisor t.rest) (omega (arith, short_steps n (whole t.columns t.divisor t.rest) few change_short)))

    pub change_fits : FitsSigned w128 (wide (wide a *ℤ wide b) +ℤ wide e)
    change_fits = rw (product_is, rest_is) (fits_signed_from_abs w128 (whole t.columns t.divisor t.rest) (omega (arith, change_short)))

    pub steps_fit : FitsSigned w128 (to_z w128 n *ℤ wide (wide (wide a *ℤ wide b) +ℤ wide e))
    steps_fit = rw (count_is, change_is)
        (fits_signed_from_abs w128 (pos n *ℤ whole t.columns t.divisor t.rest) (omega (arith, short_steps n (whole t.columns t.divisor t.rest) few change_short)))

    last_short : unsigned_abs (c.rest +ℤ pos n *ℤ whole t.columns t.divisor t.rest) ≤ 2 ^ 123
    last_short = omega (arith, ints, own_short, short_steps n (whole t.columns t.divisor t.rest) few change_short)

    pub sum_fits : FitsSigned w128 (wide f +ℤ wide (to_z w128 n *ℤ wide (wide (wide a *ℤ wide b) +ℤ wide e)))
    sum_fits = rw (own_is, steps_is) (fits_signed_from_abs w128 (c.rest +ℤ pos n *ℤ whole t.columns t.divisor t.rest) (omega (arith, last_short)))

    pub last_is : wide (wide f +ℤ wide (to_z w128 n *ℤ wide (wide (wide a *ℤ wide b) +ℤ wide e)))
        ≡ c.rest +ℤ pos n *ℤ whole t.columns t.divisor t.rest
    last_is = rw (own_is, steps_is) (kept (c.rest +ℤ pos n *ℤ whole t.columns t.divisor t.rest) (omega (arith, last_short)))
