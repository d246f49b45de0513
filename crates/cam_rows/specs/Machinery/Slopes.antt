-- Numbers at the centres of rows, one row below another: they change by one step from each centre to the next, and by
-- another from each row to the next one.
use Rattle.std.specs.Prelude.{◌≡◌, ℕ, ◌^◌, ◌+◌, ◌≤◌, ℤ, pos, negsuc, ◌+ℤ◌, ◌-ℤ◌, ◌*ℤ◌, ◌≤ℤ◌, ◌<ℤ◌}
use Rattle.std.specs.Int.RustNames.{unsigned_abs}
use Rattle.cam_rows.specs.declared.half_plane.HalfPlane.{HalfPlane}
use Rattle.cam_rows.specs.declared.slope.Crossing.{Crossing}
use Rattle.cam_rows.specs.declared.slope.Steps.{Steps}

-- the number at a centre, which is counted from the left
abbrev pub number_on : HalfPlane → ℕ → ℤ
number_on s i = s.first +ℤ pos i *ℤ s.step

-- those of the row that lies so many steps lower
abbrev pub lowered : ℕ → HalfPlane → HalfPlane
lowered k s = record { first = s.first +ℤ pos k *ℤ s.down; step = s.step; down = s.down }

-- what numbers lack: not negative where they are
abbrev pub lacking : HalfPlane → HalfPlane
lacking s = record { first = negsuc 0 -ℤ s.first; step = pos 0 -ℤ s.step; down = pos 0 -ℤ s.down }

-- what a quotient and a remainder stand for
abbrev pub whole : ℤ → ℤ → ℤ → ℤ
whole quotient divisor remainder = quotient *ℤ divisor +ℤ remainder

-- the numbers whose crossing is stepped through
abbrev pub falling : Crossing → Steps → HalfPlane
falling c t = record {
  first = whole c.columns t.divisor c.rest;
  step = pos 0 -ℤ t.divisor;
  down = whole t.columns t.divisor t.rest;
}

-- what a number is divided by, in at most 100 bits, and in 64
abbrev pub IsDivisor : ℤ → Type 0
IsDivisor divisor = (pos 1 ≤ℤ divisor) × (divisor <ℤ pos (2 ^ 100))

abbrev pub IsShortDivisor : ℤ → Type 0
IsShortDivisor divisor = (pos 1 ≤ℤ divisor) × (divisor ≤ℤ pos (2 ^ 61))

-- what a division leaves
abbrev pub IsRest : ℤ → ℤ → Type 0
IsRest rest divisor = (pos 0 ≤ℤ rest) × (rest <ℤ divisor)

-- steps whose sums fit 64 bits
pub record AreSteps (t : Steps) : Type 0 where
  pub divisor : IsShortDivisor t.divisor
  pub rest : IsRest t.rest t.divisor
  pub columns : unsigned_abs t.columns ≤ 2 ^ 40

-- a crossing at most so many columns away
pub record IsCrossing (t : Steps) (bound : ℕ) (c : Crossing) : Type 0 where
  pub low : (pos 0 -ℤ t.divisor) ≤ℤ c.rest
  pub high : c.rest <ℤ pos 0
  pub near : unsigned_abs c.columns ≤ bound

-- so many rows lower it lies in the same column: what the remainder lacks is at most the divisor there too
abbrev pub IsRestAfter : ℕ → Crossing → Steps → Type 0
IsRestAfter k c t =
    ((pos 0 -ℤ t.divisor) ≤ℤ (c.rest +ℤ pos k *ℤ whole t.columns t.divisor t.rest))
    × ((c.rest +ℤ pos k *ℤ whole t.columns t.divisor t.rest) <ℤ pos 0)

-- the steps of numbers that fall by a divisor from each centre to the next, and change from each row to the next
pub record AreStepsOf (t : Steps) (change fall : ℤ) : Type 0 where
  pub steps : AreSteps t
  pub divisor : t.divisor ≡ fall
  pub down : whole t.columns t.divisor t.rest ≡ change

-- the crossing of a row by the number at its leftmost centre
pub record IsTopOf (c : Crossing) (t : Steps) (number : ℤ) : Type 0 where
  pub here : IsCrossing t (2 ^ 61 + 1) c
  pub first : whole c.columns t.divisor c.rest ≡ number
