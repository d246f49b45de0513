-- Half planes, row after row: the centres at which a number is not negative.
use Rattle.std.specs.Prelude.{◌≡◌, ◌↔◌, ℕ, ℤ, ◌^◌, ◌+◌, ◌<◌, ◌≤◌, pos, ◌+ℤ◌, ◌≤ℤ◌, ◌<ℤ◌}
use Rattle.std.specs.Int.RustNames.{unsigned_abs}
use Rattle.cam_units.specs.declared.point.Point.{Point}
use Rattle.cam_units.specs.declared.point.Spot.{Spot}
use Rattle.cam_shapes.specs.Plane.{cross, seen_from, way}
use Rattle.cam_rows.specs.declared.centres.Centres.{Centres}
use Rattle.cam_rows.specs.declared.half_plane.HalfPlane.{HalfPlane}
use Rattle.cam_rows.specs.Machinery.Beside.{IsWithinReach}
use Rattle.cam_rows.specs.declared.slope.Crossing.{Crossing}
use Rattle.cam_rows.specs.declared.slope.Steps.{Steps}
use Rattle.cam_rows.specs.Machinery.Slopes.{AreSteps, IsCrossing, falling, lacking, lowered, number_on}
use Rattle.cam_rows.specs.Machinery.Narrowing.{IsUp}
use Rattle.cam_rows.specs.Rows.{centre_at, row_below}
use Rattle.cam_rows.specs.Runs.{AreWideRows}

-- its numbers fit 128 bits
pub record IsShortPlane (h : HalfPlane) : Type 0 where
  pub first : unsigned_abs h.first < 2 ^ 100
  pub step : unsigned_abs h.step < 2 ^ 100
  pub down : unsigned_abs h.down < 2 ^ 100

-- in each of so many rows
pub record IsShortIn (n : ℕ) (h : HalfPlane) : Type 0 where
  pub plane : IsShortPlane h
  pub rows : (k : ℕ) → k < n → unsigned_abs (lowered k h).first < 2 ^ 100

-- in rows from the top one on, it holds the places in a shape by their numbers, and fits
pub record IsHalfPlaneOf (top : Centres) (IsIn : Spot → Type 0) (h : HalfPlane) : Type 0 where
  pub tells : (k i : ℕ) → IsUp h k i ↔ IsIn (centre_at (row_below top k) i)
  pub short : (n : ℕ) → AreWideRows top n → IsShortIn n h

-- left of the line through two points, on it, or right of it where the cross product with the way is so little below 0
abbrev pub IsLeft : Point → Point → ℤ → Spot → Type 0
IsLeft p q reach s = pos 0 ≤ℤ (cross (way p q) (seen_from p s) +ℤ reach)

-- where it crosses so many rows: its numbers fall, or what they lack does
pub record IsCrossingIn (rows : ℕ) (c : Crossing) (t : Steps) (h : HalfPlane) : Type 0 where
  pub few : rows ≤ 2 ^ 20
  pub steps : AreSteps t
  pub top : IsCrossing t (2 ^ 61 + 1) c
  pub falls : h.step <ℤ pos 0 → falling c t ≡ h
  pub rises : pos 0 ≤ℤ h.step → falling c t ≡ lacking h

-- where its numbers are at most `reach` from 0 in so many rows: not up to the one crossing, and up to the other one
pub record IsStripIn (rows : ℕ) (low high : Crossing) (t : Steps) (reach : ℤ) (h : HalfPlane) : Type 0 where
  pub few : rows ≤ 2 ^ 20
  pub steps : AreSteps t
  pub near_low : IsCrossing t (2 ^ 61 + 1) low
  pub near_high : IsCrossing t (2 ^ 61 + 1) high
  pub within : (k i : ℕ) → IsWithinReach (number_on (lowered k h) i) reach
      ↔ ((IsUp (falling low t) k i → ⊥) × IsUp (falling high t) k i)
