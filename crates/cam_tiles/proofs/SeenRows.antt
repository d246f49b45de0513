-- Rows of a grid, as they are seen from a point, as code of 64 bits computes them.
use Rattle.std.proofs.Common.{◌≡◌, ℕ, ◌<◌, ℤ, pos, ◌+ℤ◌, ◌-ℤ◌, ◌*ℤ◌, FitsSigned, w64, arith}
use Rattle.std.specs.Int.RustNames.{unsigned_abs}
use Rattle.std.proofs.lemmas.Int.{ints, to_z-of_z}
use Rattle.cam_refusals.specs.Limits.{board_limit}
use Rattle.cam_units.specs.Board.{IsInReach, IsOnBoard, IsPlace}
use Rattle.cam_units.specs.declared.point.Point.{Point}
use Rattle.cam_units.specs.declared.point.Spot.{Spot}
use Rattle.cam_objects.specs.Image.{relative}
use Rattle.cam_rows.specs.declared.centres.Centres.{Centres}
use Rattle.cam_rows.specs.Rows.{centre_at}
use Rattle.cam_tiles.specs.declared.grid.Grid.{Grid}
use Rattle.cam_tiles.specs.Machinery.Lattices.{IsLattice}
use Rattle.cam_tiles.specs.Machinery.Runs.{IsWideGrid}
use Rattle.cam_tiles.specs.Tiles.{IsGrid, centre_in}
use Rattle.cam_tiles.proofs.GridLemmas.{long}
use Rattle.cam_tiles.proofs.StepLemmas.{first_x, first_y, y_kept}
use Rattle.cam_tiles.proofs.WindowLemmas.{IsNear}

-- a height or a width, as it is seen from another
pub seen_fits : (z here away : ℤ) → z ≡ here → IsNear here → unsigned_abs away < board_limit
    → FitsSigned w64 (z -ℤ long (pos 2 *ℤ long away))
seen_fits z here away is_here near short = rw is_here (omega (arith, ints))

pub seen_kept : (z here away : ℤ) → z ≡ here → IsNear here → unsigned_abs away < board_limit
    → long (z -ℤ long (pos 2 *ℤ long away)) ≡ here -ℤ pos 2 *ℤ away
seen_kept z here away is_here near short = rw is_here (omega (arith, ints))

-- a step before it is seen from a point, or after
step_seen : (x away step : ℤ) (i : ℕ) → x -ℤ pos 2 *ℤ away +ℤ pos i *ℤ step ≡ x +ℤ pos i *ℤ step -ℤ pos 2 *ℤ away
step_seen x away step i = omega (arith, ints)

-- a place of the board, as it is seen from a point of it
pub in_reach : (p : Point) (s : Spot) → IsOnBoard p → IsPlace s → IsInReach (relative p s)
in_reach p s board place = grind (arith, ints)

-- ---- the first centre, and columns

pub twice_fits : (away : ℤ) → unsigned_abs away < board_limit → FitsSigned w64 (pos 2 *ℤ long away)
twice_fits away near = omega (arith, ints)

pub first_fits : (g : Grid) (at : Point) → IsGrid g → IsOnBoard at → FitsSigned w64 (long g.x -ℤ long (pos 2 *ℤ long at.x))
first_fits g at grid board =
    seen_fits (long g.x) g.x at.x (omega (arith, ints, first_x g grid)) (first_x g grid) board.x

pub top_fits : (g : Grid) (at : Point) → IsGrid g → IsOnBoard at → FitsSigned w64 (long g.y -ℤ long (pos 2 *ℤ long at.y))
top_fits g at grid board =
    seen_fits (long g.y) g.y at.y (omega (arith, ints, first_y g grid)) (first_y g grid) board.y

pub first_seen : (g : Grid) (at : Point) → IsGrid g → IsOnBoard at
    → long (long g.x -ℤ long (pos 2 *ℤ long at.x)) ≡ g.x -ℤ pos 2 *ℤ at.x
first_seen g at grid board =
    seen_kept (long g.x) g.x at.x (omega (arith, ints, first_x g grid)) (first_x g grid) board.x

pub top_seen : (g : Grid) (at : Point) → IsGrid g → IsOnBoard at
    → long (long g.y -ℤ long (pos 2 *ℤ long at.y)) ≡ g.y -ℤ pos 2 *ℤ at.y
top_seen g at grid board =
    seen_kept (long g.y) g.y at.y (omega (arith, ints, first_y g grid)) (first_y g grid) board.y

module _ (g : Grid) (at : Point) (first step : ℤ) (is_first : first ≡ g.x -ℤ pos 2 *ℤ at.x) (is_step : step ≡ g.step) where
  pub column_seen : (n : ℕ) → first +ℤ pos n *ℤ step ≡ (relative at (centre_in g n 0)).x
  column_seen n = rw (is_first, is_step) (step_seen g.x at.x g.step n)

  pub are_columns_seen : (columns : ℕ) → IsWideGrid g columns → IsOnBoard at
      → IsLattice (record { first = first; step = step; count = columns })
  are_columns_seen columns wide board = record {
    step = rw is_step wide.grid.step;
    places = λ n within.
        let near = (in_reach at (centre_in g n 0) board (wide.centres n 0 within wide.grid.rows.0)).x in
        rw (column_seen n) (omega (arith, near));
  }

-- ---- rows

module _ (g : Grid) (row : ℕ) (at : Point) (n : ℤ) (grid : IsGrid g) (below : row < g.rows) (board : IsOnBoard at)
    (fits : FitsSigned w64 g.step) (is_row : n ≡ pos row) where
  abbrev y_now : ℤ
  y_now = long (long g.y -ℤ long (long n *ℤ long g.step))

  place : IsPlace (centre_in g 0 row)
  place = grid.centres 0 row grid.columns.0 below

  y_is : y_now ≡ (centre_in g 0 row).y
  y_is = y_kept g 0 row grid grid.columns.0 below fits n is_row

  pub seen_y_fits : FitsSigned w64 (y_now -ℤ long (pos 2 *ℤ long at.y))
  seen_y_fits = seen_fits y_now (centre_in g 0 row).y at.y y_is place.y board.y

  x_seen : long (long g.x -ℤ long (pos 2 *ℤ long at.x)) ≡ g.x -ℤ pos 2 *ℤ at.x
  x_seen = first_seen g at grid board

  y_seen : long (y_now -ℤ long (pos 2 *ℤ long at.y)) ≡ (centre_in g 0 row).y -ℤ pos 2 *ℤ at.y
  y_seen = seen_kept y_now (centre_in g 0 row).y at.y y_is place.y board.y

  -- the row as the code computes it
  abbrev pub row_now : Centres
  row_now = record {
    x = long (long g.x -ℤ long (pos 2 *ℤ long at.x));
    y = long (y_now -ℤ long (pos 2 *ℤ long at.y));
    step = long g.step;
    n = g.cols;
  }

  pub row_seen : (i : ℕ) → centre_at row_now i ≡ relative at (centre_in g i row)
  row_seen i = grind (arith, to_z-of_z, x_seen, y_seen, step_seen)

  pub row_reaches : (i : ℕ) → i < g.cols → IsInReach (centre_at row_now i)
  row_reaches i inside = rw (row_seen i) (in_reach at (centre_in g i row) board (grid.centres i row inside below))
