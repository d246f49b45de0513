-- Runs of rows, narrowed to the columns that something holds.
use Rattle.std.specs.Prelude.{◌≡◌, ◌↔◌, ℕ, ◌<◌, ◌≤◌, List, length, slice_index, pos, ◌≤ℤ◌, ◌<ℤ◌}
use Rattle.cam_units.specs.declared.point.Point.{Point}
use Rattle.cam_units.specs.declared.point.Spot.{Spot}
use Rattle.cam_shapes.specs.Plane.{dot, seen_from}
use Rattle.cam_rows.specs.declared.half_plane.HalfPlane.{HalfPlane}
use Rattle.cam_rows.specs.Machinery.Slopes.{lowered, number_on}
use Rattle.cam_rows.specs.Runs.{IsInRun}

-- the number at column i of the row that lies k steps below the top one is not negative
abbrev pub IsUp : HalfPlane → ℕ → ℕ → Type 0
IsUp s k i = pos 0 ≤ℤ number_on (lowered k s) i

-- the square of a place's distance from a point is less than a bound
abbrev pub IsNearer : Point → ℕ → Spot → Type 0
IsNearer p bound s = dot (seen_from p s) (seen_from p s) <ℤ pos bound

-- a column is in the run of a row
abbrev pub IsInRow : List ℕ → List ℕ → ℕ → ℕ → Type 0
IsInRow firsts ends k i = IsInRun (slice_index firsts k) (slice_index ends k) i

-- of so many columns those stay in a row's run that are held there, in the rows from the top one up to an end, and the
-- others are as they were
pub record AreNarrowed (columns : ℕ) (firsts ends : List ℕ) (IsHeld : ℕ → ℕ → Type 0) (end : ℕ)
    (new_firsts new_ends : List ℕ) : Type 0 where
  pub each : (k i : ℕ) → k < end → i < columns
      → IsInRow new_firsts new_ends k i ↔ (IsInRow firsts ends k i × IsHeld k i)
  pub within : (k : ℕ) → slice_index new_ends k ≤ slice_index ends k
  pub same_firsts : (k : ℕ) → end ≤ k → slice_index new_firsts k ≡ slice_index firsts k
  pub same_ends : (k : ℕ) → end ≤ k → slice_index new_ends k ≡ slice_index ends k

-- in so many rows from the top one on, the ends of runs from the left: of so many columns those lie before them that are
-- held there
pub record AreCounted (columns : ℕ) (IsHeld : ℕ → ℕ → Type 0) (rows : ℕ) (end : ℕ → ℕ) : Type 0 where
  pub each : (k i : ℕ) → k < rows → i < columns → (i < end k) ↔ IsHeld k i
  pub within : (k : ℕ) → k < rows → end k ≤ columns

-- of the columns before the ends of runs those stay that are held
abbrev pub AreEndsCut : (ℕ → ℕ → Type 0) → List ℕ → List ℕ → Type 0
AreEndsCut IsHeld ends new_ends =
    (k i : ℕ) → k < length ends → (i < slice_index new_ends k) ↔ ((i < slice_index ends k) × IsHeld k i)

-- of so many columns from the first ones of runs on, those stay that are not held
abbrev pub AreFirstsCut : ℕ → (ℕ → ℕ → Type 0) → List ℕ → List ℕ → Type 0
AreFirstsCut columns IsHeld firsts new_firsts =
    (k i : ℕ) → k < length firsts → i < columns
    → (slice_index new_firsts k ≤ i) ↔ ((slice_index firsts k ≤ i) × (IsHeld k i → ⊥))
