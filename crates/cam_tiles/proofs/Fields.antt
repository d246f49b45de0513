-- Rows of columns whose centres are places of the board, or as they are seen from a point of it.
use Rattle.std.proofs.Common.{◌≡◌, ℕ, ◌+◌, ◌≤◌, ℤ, pos, ◌+ℤ◌, ◌≤ℤ◌, arith}
use Rattle.std.proofs.lemmas.Int.{ints}
use Rattle.cam_units.specs.Board.{IsInReach, IsPlace}
use Rattle.cam_units.specs.declared.point.Spot.{Spot}
use Rattle.cam_rows.specs.Runs.{AreWideRows}
use Rattle.cam_tiles.specs.declared.grid.Grid.{Grid}
use Rattle.cam_tiles.specs.declared.masks.field.Field.{Field}
use Rattle.cam_tiles.specs.Machinery.Levels.{height, levels_of}
use Rattle.cam_tiles.specs.Machinery.Runs.{IsWideGrid}
use Rattle.cam_tiles.specs.Machinery.Fields.{IsField}
use Rattle.cam_tiles.specs.Tiles.{centre_in}
use Rattle.cam_tiles.proofs.LevelRows.{of_grid}
use Rattle.cam_tiles.proofs.RunColumns.{below_top}

near_reach : (s : Spot) → IsPlace s → IsInReach s
near_reach s place = record { x = omega (arith, place.x); y = omega (arith, place.y) }

-- the rows of a grid, as far as its columns go on to the right
pub field_of_wide : (g : Grid) (columns : ℕ) → IsWideGrid g columns → IsField g columns
field_of_wide g columns wide = record {
  rows = wide.grid.rows.1;
  count = wide.count;
  step = wide.grid.step;
  centres = λ column row near within. near_reach (centre_in g column row) (wide.centres column row near within);
  levels = of_grid g wide.grid;
}

-- ---- rows one below another

pub field_rows : (f : Field) (first : ℕ) (x y step : ℤ) (n m : ℕ) → x ≡ f.grid.x
    → y ≡ height (levels_of f.grid) first → step ≡ f.grid.step → first + n ≤ f.grid.rows → m ≡ n
    → AreWideRows (record { x = x; y = y; step = step; n = f.columns }) m
field_rows f first x y step n m is_x is_y is_step within size k few =
    rw (is_x, is_y, is_step) (record {
      count = f.seen.count;
      step = f.seen.step;
      centres = λ i inside. rw (below_top f.grid f.columns first k i)
          (f.seen.centres i (first + k) inside (omega (arith, within, size, few)));
    })

-- a column lies right of the first
pub up_right : (first far end : ℤ) → pos 0 ≤ℤ far → end ≤ℤ first → end ≤ℤ (first +ℤ far)
up_right first far end some h = omega (arith, ints)
