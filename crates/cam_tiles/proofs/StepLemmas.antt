-- Steps over a grid, as code of 64 bits computes them.
use Rattle.std.proofs.Common.{◌≡◌, ℕ, ◌^◌, ◌<◌, ℤ, pos, ◌+ℤ◌, ◌-ℤ◌, ◌*ℤ◌, ap, subst, ◌∙◌, FitsSigned, w64, arith}
use Rattle.std.specs.Int.RustNames.{unsigned_abs}
use Rattle.std.proofs.lemmas.Int.{ints, to_z-of_z}
use Rattle.cam_units.specs.Board.{IsPlace}
use Rattle.cam_units.specs.declared.point.Spot.{Spot}
use Rattle.cam_units.proofs.Ring.{equal}
use Rattle.cam_units.proofs.Ring.Polynomial.{Atom, Sum, Difference, Product}
use Rattle.cam_tiles.specs.declared.grid.Grid.{Grid}
use Rattle.cam_tiles.specs.Tiles.{IsGrid, centre_in}
use Rattle.cam_tiles.proofs.GridLemmas.{long}
use Rattle.cam_tiles.proofs.WindowLemmas.{IsNear}

-- the way between two that are near is short
pub way_right : (x d : ℤ) → IsNear x → IsNear (x +ℤ d) → unsigned_abs d < 4000000000
way_right x d here there = omega (arith, ints)

way_down : (y d : ℤ) → IsNear y → IsNear (y -ℤ d) → unsigned_abs d < 4000000000
way_down y d here there = omega (arith, ints)

-- so many steps
pub way_kept : (n s : ℤ) (k : ℕ) → n ≡ pos k → k < 2 ^ 32 → FitsSigned w64 s → long n *ℤ long s ≡ pos k *ℤ s
way_kept n s k e few fits = grind (arith, long, to_z-of_z, ints)

pub fits_short : (d e : ℤ) → d ≡ e → unsigned_abs e < 4000000000 → FitsSigned w64 d
fits_short d e same short = omega (arith, ints, ap unsigned_abs same)

-- a step to the right, and one down
pub right_is : (x d e : ℤ) → d ≡ e → IsNear x → unsigned_abs e < 4000000000
    → long x +ℤ long d ≡ x +ℤ e
right_is x d e same here short = omega (arith, ints)

down_is : (y d e : ℤ) → d ≡ e → IsNear y → unsigned_abs e < 4000000000
    → long y -ℤ long d ≡ y -ℤ e
down_is y d e same here short = omega (arith, ints)

pub fits_near : (z m : ℤ) → z ≡ m → IsNear m → FitsSigned w64 z
fits_near z m e h = omega (arith, ints, ap unsigned_abs e)

pub long_near : (z m : ℤ) → z ≡ m → IsNear m → long z ≡ m
long_near z m e h = to_z-of_z w64 z (fits_near z m e h) ∙ e

pub no_step : (x s : ℤ) → x +ℤ pos 0 *ℤ s ≡ x
no_step x s = equal (Sum (Atom x) (Product (Atom (pos 0)) (Atom s))) (Atom x) (omega arith)

pub no_step_down : (y s : ℤ) → y -ℤ pos 0 *ℤ s ≡ y
no_step_down y s = equal (Difference (Atom y) (Product (Atom (pos 0)) (Atom s))) (Atom y) (omega arith)

-- the first centre
pub first_x : (g : Grid) → IsGrid g → IsNear g.x
first_x g grid = subst IsNear (no_step g.x g.step) (grid.centres 0 0 grid.columns.0 grid.rows.0).x

pub first_y : (g : Grid) → IsGrid g → IsNear g.y
first_y g grid = subst IsNear (no_step_down g.y g.step) (grid.centres 0 0 grid.columns.0 grid.rows.0).y

module _ (g : Grid) (column row : ℕ) (grid : IsGrid g) (inside : column < g.cols) (below : row < g.rows)
    (fits : FitsSigned w64 g.step) where
  there : IsPlace (centre_in g column row)
  there = grid.centres column row inside below

  short_right : unsigned_abs (pos column *ℤ g.step) < 4000000000
  short_right = way_right g.x (pos column *ℤ g.step) (first_x g grid) there.x

  pub short_down : unsigned_abs (pos row *ℤ g.step) < 4000000000
  short_down = way_down g.y (pos row *ℤ g.step) (first_y g grid) there.y

  way_right_is : (n : ℤ) → n ≡ pos column → long n *ℤ long g.step ≡ pos column *ℤ g.step
  way_right_is n e = way_kept n g.step column e (omega (arith, grid.columns)) fits

  pub way_down_is : (n : ℤ) → n ≡ pos row → long n *ℤ long g.step ≡ pos row *ℤ g.step
  way_down_is n e = way_kept n g.step row e (omega (arith, grid.rows)) fits

  pub right_way_fits : (n : ℤ) → n ≡ pos column → FitsSigned w64 (long n *ℤ long g.step)
  right_way_fits n e = fits_short _ _ (way_right_is n e) short_right

  pub down_way_fits : (n : ℤ) → n ≡ pos row → FitsSigned w64 (long n *ℤ long g.step)
  down_way_fits n e = fits_short _ _ (way_down_is n e) short_down

  x_is : (n : ℤ) → n ≡ pos column
      → long g.x +ℤ long (long n *ℤ long g.step) ≡ g.x +ℤ pos column *ℤ g.step
  x_is n e = grind (arith, right_is, long, way_right_is, first_x, short_right)

  y_is : (n : ℤ) → n ≡ pos row → long g.y -ℤ long (long n *ℤ long g.step) ≡ g.y -ℤ pos row *ℤ g.step
  y_is n e = down_is g.y (long n *ℤ long g.step) (pos row *ℤ g.step) (way_down_is n e) (first_y g grid) short_down

  pub x_fits : (n : ℤ) → n ≡ pos column → FitsSigned w64 (long g.x +ℤ long (long n *ℤ long g.step))
  x_fits n e = fits_near _ _ (x_is n e) there.x

  pub y_fits : (n : ℤ) → n ≡ pos row → FitsSigned w64 (long g.y -ℤ long (long n *ℤ long g.step))
  y_fits n e = fits_near _ _ (y_is n e) there.y

  pub y_kept : (n : ℤ) → n ≡ pos row
      → long (long g.y -ℤ long (long n *ℤ long g.step)) ≡ g.y -ℤ pos row *ℤ g.step
  y_kept n e = long_near _ _ (y_is n e) there.y

  -- the centre as the code computes it
  pub centre_kept : (m n : ℤ) → m ≡ pos column → n ≡ pos row → ◌≡◌ {A = Spot} record {
    x = long (long g.x +ℤ long (long m *ℤ long g.step));
    y = long (long g.y -ℤ long (long n *ℤ long g.step));
  } (centre_in g column row)
  centre_kept m n e f =
      let spot : ℤ → ℤ → Spot = λ x y. record { x = x; y = y } in
      ap (λ x. spot x (long (long g.y -ℤ long (long n *ℤ long g.step)))) (long_near _ _ (x_is m e) there.x)
      ∙ ap (spot (g.x +ℤ pos column *ℤ g.step)) (y_kept n f)
