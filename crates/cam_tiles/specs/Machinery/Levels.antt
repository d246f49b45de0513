-- Rows of centres by their heights, one below another.
use Rattle.std.specs.Prelude.{◌≡◌, ℕ, ◌<◌, ℤ, pos, ◌-ℤ◌, ◌*ℤ◌, ◌≤ℤ◌}
use Rattle.std.specs.Int.RustNames.{unsigned_abs}
use Rattle.cam_units.specs.declared.point.Spot.{Spot}
use Rattle.cam_tiles.specs.declared.grid.Grid.{Grid}
use Rattle.cam_tiles.specs.declared.levels.Levels.{Levels}

-- the height of a row, which is counted from the top
abbrev pub height : Levels → ℕ → ℤ
height l row = l.top -ℤ pos row *ℤ l.step

-- those of a grid
abbrev pub levels_of : Grid → Levels
levels_of g = record { top = g.y; step = g.step; rows = g.rows }

-- rows of which each lies below the one before it, and which may be seen from a point of the board
pub record AreLevels (l : Levels) : Type 0 where
  pub step : pos 1 ≤ℤ l.step
  pub some : 0 < l.rows
  pub heights : (row : ℕ) → row < l.rows → unsigned_abs (height l row) < 4000000000

-- a place in one of the rows
abbrev pub IsOnRow : Levels → ℕ → Spot → Type 0
IsOnRow l row s = (row < l.rows) × (s.y ≡ height l row)
