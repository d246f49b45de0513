-- The sums that lead to the crossing of the next row fit 64 bits.
use Rattle.std.proofs.Common.{◌≡◌, ℕ, ◌^◌, ◌+◌, ◌≤◌, ℤ, pos, ◌+ℤ◌, ◌-ℤ◌, ◌≤ℤ◌, ◌<ℤ◌, arith}
use Rattle.std.proofs.lemmas.Int.{ints}
use Rattle.std.specs.Int.RustNames.{unsigned_abs}
use Rattle.cam_shapes.proofs.Widths.{narrow}
use Rattle.cam_rows.specs.declared.slope.Crossing.{Crossing}
use Rattle.cam_rows.specs.declared.slope.Steps.{Steps}
use Rattle.cam_rows.specs.Machinery.Slopes.{AreSteps, IsCrossing, IsRest, IsShortDivisor}

pub columns_kept : (c t : ℤ) → unsigned_abs c ≤ 2 ^ 62 → unsigned_abs t ≤ 2 ^ 40 → narrow (narrow c +ℤ narrow t) ≡ c +ℤ t
columns_kept c t h k = omega (arith, ints)

pub next_kept : (c t : ℤ) → unsigned_abs c ≤ 2 ^ 62 → unsigned_abs t ≤ 2 ^ 40
    → narrow (narrow (narrow c +ℤ narrow t) +ℤ pos 1) ≡ c +ℤ t +ℤ pos 1
next_kept c t h k = omega (arith, ints)

pub rest_kept : (r t d : ℤ) → (pos 0 -ℤ d) ≤ℤ r → r <ℤ pos 0 → IsShortDivisor d → IsRest t d
    → narrow (narrow r +ℤ narrow t) ≡ r +ℤ t
rest_kept r t d low high short rest = omega (arith, ints, short.0, short.1, rest.0, rest.1)

pub past_kept : (r t d : ℤ) → (pos 0 -ℤ d) ≤ℤ r → r <ℤ pos 0 → IsShortDivisor d → IsRest t d
    → narrow (narrow r -ℤ narrow (narrow d -ℤ narrow t)) ≡ r +ℤ t -ℤ d
past_kept r t d low high short rest = omega (arith, ints, short.0, short.1, rest.0, rest.1)

pub minus_kept : (d : ℤ) → IsShortDivisor d → narrow (pos 0 -ℤ narrow d) ≡ pos 0 -ℤ d
minus_kept d short = omega (arith, ints, short.0, short.1)

pub near_below : (t : Steps) (c : Crossing) (bound : ℕ) → AreSteps t → IsCrossing t bound c → (c.rest +ℤ t.rest) <ℤ pos 0
    → IsCrossing t (bound + 2 ^ 41) (record { columns = c.columns +ℤ t.columns; rest = c.rest +ℤ t.rest })
near_below t c bound steps here less = grind (arith, ints)

pub near_past : (t : Steps) (c : Crossing) (bound : ℕ) → AreSteps t → IsCrossing t bound c → pos 0 ≤ℤ (c.rest +ℤ t.rest)
    → IsCrossing t (bound + 2 ^ 41)
    (record { columns = c.columns +ℤ t.columns +ℤ pos 1; rest = c.rest +ℤ t.rest -ℤ t.divisor })
near_past t c bound steps here more = grind (arith, ints)
