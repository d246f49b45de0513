-- Rows of tiles side by side, as they are or as they are seen from a point.
use Rattle.std.specs.Prelude.{ℕ, ◌<◌, ◌≤◌, pos, ◌≤ℤ◌}
use Rattle.cam_units.specs.Board.{IsInReach}
use Rattle.cam_rows.specs.Runs.{most_columns}
use Rattle.cam_tiles.specs.declared.grid.Grid.{Grid}
use Rattle.cam_tiles.specs.Machinery.Levels.{AreLevels, levels_of}
use Rattle.cam_tiles.specs.Tiles.{centre_in}

-- rows of so many columns, whose centres are places of the board, or as they are seen from a point of it
pub record IsField (g : Grid) (columns : ℕ) : Type 0 where
  pub rows : g.rows ≤ 64
  pub count : (1 ≤ columns) × (columns ≤ most_columns)
  pub step : pos 1 ≤ℤ g.step
  pub centres : (column row : ℕ) → column < columns → row < g.rows → IsInReach (centre_in g column row)
  pub levels : AreLevels (levels_of g)
