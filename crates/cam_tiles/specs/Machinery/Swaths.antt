-- Swaths: tiles of a row of tiles, side by side, which are painted at once, from the last leaf on.
use Rattle.std.specs.Prelude.{◌≡◌, ◌↔◌, ℕ, ◌+◌, ◌-◌, ◌*◌, ◌/◌, ◌%◌, ◌<◌, ◌≤◌, min, Bool, false, List, length, slice_index_or}
use Rattle.std.specs.Prelude.{Option, None, Some, IsSome, IsTrue, ◌⊎◌, unwrap_or, []}
use Rattle.cam_units.specs.Boxes.{Holds}
use Rattle.cam_units.specs.declared.point.Spot.{Spot}
use Rattle.cam_objects.specs.Canvases.{Paints}
use Rattle.cam_objects.specs.Leaves.{Leaf}
use Rattle.cam_tiles.specs.declared.grid.Grid.{Grid}
use Rattle.cam_tiles.specs.declared.masks.figure_runs.FigureRuns.{FigureRuns}
use Rattle.cam_tiles.specs.declared.masks.swath.Swath.TheInside.{Inside}
use Rattle.cam_tiles.specs.declared.window.Window.{Window}
use Rattle.cam_tiles.specs.Machinery.Figures.{HasPart}
use Rattle.cam_tiles.specs.Machinery.Inks.{Inked, ink_at}
use Rattle.cam_tiles.specs.Machinery.Levels.{levels_of}
use Rattle.cam_tiles.specs.Machinery.Masks.{IsIn}
use Rattle.cam_tiles.specs.Machinery.Runs.{IsWideGrid}
use Rattle.cam_tiles.specs.Tables.{Tile}
use Rattle.cam_tiles.specs.Tiles.{IsGrid, across, centre_in, grid_of, first_column, tiles_of}

-- the rows of a grid, which go on to the right, in so many columns, and what is known of their pixels
pub record Swathed : Type 0 where
  pub grid : Grid
  pub columns : ℕ
  pub inks : Inked

abbrev pub IsInSwath : Swathed → ℕ → ℕ → Type 0
IsInSwath s column row = (column < s.columns) × (row < s.grid.rows)

abbrev pub place_in : Swathed → ℕ → ℕ → Spot
place_in s column row = centre_in s.grid column row

abbrev pub ink_in : Swathed → ℕ → ℕ → Option Bool
ink_in s column row = ink_at s.inks row column

-- leaves painted on a swath, beneath those before
abbrev pub PaintsSwath : Swathed → List Leaf → Swathed → Type 0
PaintsSwath = Paints IsInSwath place_in ink_in

-- all of it is decided
abbrev pub IsDoneSwath : Swathed → Type 0
IsDoneSwath s = (column row : ℕ) → IsInSwath s column row → IsSome (ink_in s column row)

abbrev pub tiles_in : Swathed → ℕ
tiles_in s = (s.columns + 63) / 64

-- a test holds of the columns that a figure has by its runs, of those that are not decided
abbrev pub AreRunsOf : (ℕ → ℕ → Bool) → FigureRuns → Inked → Type 0
AreRunsOf holds runs k =
    (row column : ℕ) → row < 64 → column < 64 * k.tiles
    → IsSome (ink_at k row column) ⊎ (IsTrue (holds row column) ↔ HasPart runs row column)

-- ---- the tiles of a row of tiles

-- tiles side by side in a row of them, the first of which has a number
pub record IsRowOfTiles (w : Window) (first : ℕ) (tiles : List Tile) : Type 0 where
  pub some : 0 < length tiles
  pub fits : first % across w + length tiles ≤ across w
  pub within : first + length tiles ≤ tiles_of w

-- how many columns they have
abbrev pub columns_of : Window → ℕ → ℕ → ℕ
columns_of w first count = min (w.width - first_column w first) (64 * count)

-- the rows of a swath are those of a tile
abbrev pub HasRowOf : Window → ℕ → Swathed → Type 0
HasRowOf w tile s = levels_of s.grid ≡ levels_of (grid_of w tile)

-- An image is shown in the dirty ones of tiles from a number on, each of which has its grid.
pub record ShowsDirty (image : Spot → Bool) (grid : ℕ → Grid) (first : ℕ) (s : Swathed) (tiles : List Tile) : Type 0 where
  pub pixels : (tile column row : ℕ) → tile < length tiles → column < 64
      → IsIn (grid (first + tile)) column row ↔ IsInSwath s (64 * tile + column) row
  pub places : (tile column row : ℕ) → tile < length tiles
      → centre_in (grid (first + tile)) column row ≡ place_in s (64 * tile + column) row
  pub inks : (column row : ℕ) → IsInSwath s column row → slice_index_or tiles (column / 64) (Some []) ≡ None
      → unwrap_or (ink_in s column row) false ≡ image (place_in s column row)

-- ---- what is kept

abbrev pub swathed_of : Inside → Swathed
swathed_of s = record { grid = s.grid; columns = s.columns; inks = s.inks }

pub record IsSwath (s : Inside) : Type 0 where
  pub grid : IsGrid s.grid
  pub wide : 0 < s.columns → IsWideGrid s.grid s.columns
  pub few : s.columns ≤ 32768
  pub tiles : s.inks.tiles ≡ (s.columns + 63) / 64
  pub marks : 64 * s.inks.tiles ≤ length s.marks.items
  pub spare : 64 * s.inks.tiles ≤ length s.spare.items
  pub held : (column row : ℕ) → column < s.columns → row < s.grid.rows → Holds s.bounds (centre_in s.grid column row)
  pub outside : (row column : ℕ) → row < 64 → column < 64 * s.inks.tiles → (column < s.columns → row < s.grid.rows → ⊥)
      → ink_at s.inks row column ≡ Some false
