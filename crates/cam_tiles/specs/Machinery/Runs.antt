-- Runs of columns in the rows of tiles side by side.
use Rattle.std.specs.Prelude.{◌≡◌, ◌↔◌, ℕ, ◌+◌, ◌<◌, ◌≤◌, slice_index}
use Rattle.cam_units.specs.Board.{IsPlace}
use Rattle.cam_units.specs.declared.point.Spot.{Spot}
use Rattle.cam_rows.specs.Runs.{IsInRun, most_columns}
use Rattle.cam_tiles.specs.declared.grid.Grid.{Grid}
use Rattle.cam_tiles.specs.declared.masks.runs.Runs.{Runs}
use Rattle.cam_tiles.specs.Tiles.{IsGrid, centre_in}

-- a column is in the run of a row
abbrev pub HasColumn : Runs → ℕ → ℕ → Type 0
HasColumn r row column =
    (r.band.first ≤ row) × (row < r.band.end) × IsInRun (slice_index r.firsts row) (slice_index r.ends row) column

-- two rows have the same run
abbrev pub AreAlike : Runs → ℕ → ℕ → Type 0
AreAlike r row other =
    (slice_index r.firsts other ≡ slice_index r.firsts row) × (slice_index r.ends other ≡ slice_index r.ends row)

-- the band is one of so many rows
abbrev pub Fits : ℕ → Runs → Type 0
Fits rows r = r.band.end ≤ rows

-- no column is in a run, and no row in the band
pub record IsClear (r : Runs) : Type 0 where
  pub none : (row column : ℕ) → HasColumn r row column → ⊥
  pub low : r.band.end ≡ 0

-- the rows of a grid go on to the right: so many columns from its left on
pub record IsWideGrid (g : Grid) (columns : ℕ) : Type 0 where
  pub grid : IsGrid g
  pub count : (1 ≤ columns) × (columns ≤ most_columns)
  pub centres : (column row : ℕ) → column < columns → row < g.rows → IsPlace (centre_in g column row)

-- the columns of a shape in these rows
pub record Tells (g : Grid) (columns : ℕ) (IsHeld : Spot → Type 0) (r : Runs) : Type 0 where
  pub fits : Fits g.rows r
  pub each : (column row : ℕ) → column < columns → row < g.rows
      → HasColumn r row column ↔ IsHeld (centre_in g column row)

-- of the columns of other runs those that a shape holds, and no column that it does not hold
pub record Finds (g : Grid) (columns : ℕ) (IsHeld : Spot → Type 0) (others r : Runs) : Type 0 where
  pub fits : Fits g.rows r
  pub held : (column row : ℕ) → column < columns → row < g.rows → HasColumn r row column → IsHeld (centre_in g column row)
  pub all : (column row : ℕ) → column < columns → row < g.rows → HasColumn others row column
      → IsHeld (centre_in g column row) → HasColumn r row column

-- another grid has the same rows, and begins at a column of the first one
pub record StandsAt (g : Grid) (column : ℕ) (other : Grid) : Type 0 where
  pub near : column < most_columns
  pub rows : other.rows ≡ g.rows
  pub centres : (i row : ℕ) → centre_in other i row ≡ centre_in g (column + i) row
