-- Parts of a row of tiles as they are seen from a point, as code of 64 bits computes them.
use Rattle.std.proofs.Common.{◌≡◌, ℕ, ◌+◌, ◌-◌, ◌*◌, ◌<◌, ◌≤◌, ℤ, pos, ◌+ℤ◌, ◌-ℤ◌, ◌*ℤ◌, min, refl, subst, sym}
use Rattle.std.proofs.Common.{FitsSigned, w64, arith}
use Rattle.std.specs.Int.RustNames.{unsigned_abs}
use Rattle.std.proofs.lemmas.Int.{ints, to_z-of_z}
use Rattle.cam_units.specs.Board.{IsInReach, IsOnBoard, IsPlace}
use Rattle.cam_units.specs.declared.point.Point.{Point}
use Rattle.cam_units.proofs.Ring.{equal}
use Rattle.cam_units.proofs.Ring.Polynomial.{Atom, Difference, Product, Sum}
use Rattle.cam_objects.specs.Image.{relative}
use Rattle.cam_tiles.specs.declared.grid.Grid.{Grid}
use Rattle.cam_tiles.specs.Machinery.Runs.{IsWideGrid, StandsAt}
use Rattle.cam_tiles.specs.Machinery.Fields.{IsField}
use Rattle.cam_tiles.specs.Machinery.Words.{part_seen}
use Rattle.cam_tiles.specs.Tiles.{IsGrid, centre_in}
use Rattle.cam_tiles.proofs.GridLemmas.{long}
use Rattle.cam_tiles.proofs.LevelRows.{are_seen}
use Rattle.cam_tiles.proofs.SeenRows.{in_reach, seen_fits, seen_kept}
use Rattle.cam_tiles.proofs.StepLemmas.{first_x, first_y, fits_near, fits_short, long_near, right_is, way_kept, way_right}

-- ---- the grid from a tile on

further_right : (x step : ℤ) (first i : ℕ) → x +ℤ pos first *ℤ step +ℤ pos i *ℤ step ≡ x +ℤ pos (first + i) *ℤ step
further_right x step first i =
    equal
    (Sum (Sum (Atom x) (Product (Atom (pos first)) (Atom step))) (Product (Atom (pos i)) (Atom step)))
    (Sum (Atom x) (Product (Atom (pos (first + i))) (Atom step)))
    (omega arith)

module _ (g : Grid) (columns column cols : ℕ) (wide : IsWideGrid g columns) (within : column < columns) where
  abbrev pub part_from : Grid
  part_from = record { x = (centre_in g column 0).x; y = g.y; step = g.step; cols = cols; rows = g.rows }

  from_centre : (i row : ℕ) → centre_in part_from i row ≡ centre_in g (column + i) row
  from_centre i row = λ j. record { x = further_right g.x g.step column i j; y = g.y -ℤ pos row *ℤ g.step }

  from_places : (i row : ℕ) → column + i < columns → row < g.rows → IsPlace (centre_in part_from i row)
  from_places i row near below = subst IsPlace (sym (from_centre i row)) (wide.centres (column + i) row near below)

  pub from_stands : StandsAt g column part_from
  from_stands = record { near = omega (arith, within, wide.count.1); rows = refl; centres = from_centre }

  pub from_wide : cols ≡ min (columns - column) 64 → IsWideGrid part_from (columns - column)
  from_wide is = grind (arith, from_places)

-- as the code computes it
module _ (g : Grid) (tile : ℕ) (n : ℤ) (grid : IsGrid g) (few : 64 * tile < 32768)
    (there : IsPlace (centre_in g (64 * tile) 0)) (fits : FitsSigned w64 g.step) (is : n ≡ pos (64 * tile)) where
  abbrev x_now : ℤ
  x_now = long (long g.x +ℤ long (long n *ℤ long g.step))

  short : unsigned_abs (pos (64 * tile) *ℤ g.step) < 4000000000
  short = way_right g.x (pos (64 * tile) *ℤ g.step) (first_x g grid) there.x

  way_is : long n *ℤ long g.step ≡ pos (64 * tile) *ℤ g.step
  way_is = way_kept n g.step (64 * tile) is (omega arith) fits

  pub from_way_fits : FitsSigned w64 (long n *ℤ long g.step)
  from_way_fits = fits_short _ _ way_is short

  sum_is : long g.x +ℤ long (long n *ℤ long g.step) ≡ (centre_in g (64 * tile) 0).x
  sum_is = right_is g.x (long n *ℤ long g.step) (pos (64 * tile) *ℤ g.step) way_is (first_x g grid) short

  pub from_x_fits : FitsSigned w64 (long g.x +ℤ long (long n *ℤ long g.step))
  from_x_fits = fits_near _ _ sum_is there.x

  x_is : x_now ≡ (centre_in g (64 * tile) 0).x
  x_is = long_near _ _ sum_is there.x

  y_is : long g.y ≡ g.y
  y_is = long_near _ _ refl (first_y g grid)

  step_is : long g.step ≡ g.step
  step_is = to_z-of_z w64 g.step fits

  pub from_kept : (columns cols : ℕ) (wide : IsWideGrid g columns) (within : 64 * tile < columns) → ◌≡◌ {A = Grid}
      record { x = x_now; y = long g.y; step = long g.step; cols = cols; rows = g.rows }
      (part_from g columns (64 * tile) cols wide within)
  from_kept columns cols wide within =
      λ j. record { x = x_is j; y = y_is j; step = step_is j; cols = cols; rows = g.rows }

  -- as it is seen from a point
  module _ (at : Point) (board : IsOnBoard at) where
    pub part_x_fits : FitsSigned w64 (x_now -ℤ long (pos 2 *ℤ long at.x))
    part_x_fits = seen_fits x_now (centre_in g (64 * tile) 0).x at.x x_is there.x board.x

    seen_x : long (x_now -ℤ long (pos 2 *ℤ long at.x)) ≡ (part_seen g tile at).x
    seen_x = seen_kept x_now (centre_in g (64 * tile) 0).x at.x x_is there.x board.x

    seen_y : long (long g.y -ℤ long (pos 2 *ℤ long at.y)) ≡ (part_seen g tile at).y
    seen_y = seen_kept (long g.y) g.y at.y y_is (first_y g grid) board.y

    pub part_kept : ◌≡◌ {A = Grid} record {
      x = long (x_now -ℤ long (pos 2 *ℤ long at.x));
      y = long (long g.y -ℤ long (pos 2 *ℤ long at.y));
      step = long g.step;
      cols = g.cols;
      rows = g.rows;
    } (part_seen g tile at)
    part_kept = λ j. record { x = seen_x j; y = seen_y j; step = step_is j; cols = g.cols; rows = g.rows }

further : (x step away : ℤ) (first i : ℕ)
    → x +ℤ pos first *ℤ step -ℤ away +ℤ pos i *ℤ step ≡ x +ℤ pos (first + i) *ℤ step -ℤ away
further x step away first i =
    equal
    (Sum (Difference (Sum (Atom x) (Product (Atom (pos first)) (Atom step))) (Atom away))
    (Product (Atom (pos i)) (Atom step)))
    (Difference (Sum (Atom x) (Product (Atom (pos (first + i))) (Atom step))) (Atom away))
    (omega arith)

lower : (y down away : ℤ) → y -ℤ away -ℤ down ≡ y -ℤ down -ℤ away
lower y down away = omega (arith, ints)

module _ (g : Grid) (tile : ℕ) (at : Point) where
  pub part_centre : (i row : ℕ) → centre_in (part_seen g tile at) i row ≡ relative at (centre_in g (64 * tile + i) row)
  part_centre i row = λ j. record {
    x = further g.x g.step (pos 2 *ℤ at.x) (64 * tile) i j;
    y = lower g.y (pos row *ℤ g.step) (pos 2 *ℤ at.y) j;
  }

  pub part_field : (columns past : ℕ) → IsWideGrid g columns → IsOnBoard at → 64 * tile < past → past ≤ columns
      → IsField (part_seen g tile at) (past - 64 * tile)
  part_field columns past wide board some within = record {
    rows = wide.grid.rows.1;
    count = (omega (arith, some), omega (arith, within, wide.count.1));
    step = wide.grid.step;
    centres = λ i row near below.
        subst IsInReach (sym (part_centre i row))
        (in_reach at (centre_in g (64 * tile + i) row) board
        (wide.centres (64 * tile + i) row (omega (arith, near, within)) below));
    levels = are_seen g at _ _ refl refl wide.grid board;
  }
