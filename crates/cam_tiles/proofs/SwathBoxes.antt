-- The box of the centres of rows that go on to the right, as code of 64 bits computes it.
use Rattle.std.proofs.Common.{◌≡◌, ℕ, ◌-◌, ◌<◌, ℤ, pos, ◌+ℤ◌, ◌-ℤ◌, ◌*ℤ◌, subst, FitsSigned, w64, arith}
use Rattle.std.specs.Int.RustNames.{unsigned_abs}
use Rattle.std.proofs.lemmas.Int.{ints}
use Rattle.cam_units.specs.Boxes.{IsInBox}
use Rattle.cam_tiles.specs.declared.grid.Grid.{Grid}
use Rattle.cam_tiles.specs.Machinery.Runs.{IsWideGrid}
use Rattle.cam_tiles.specs.Tiles.{centre_in}
use Rattle.cam_tiles.proofs.GridBoxes.{steps_on, steps_up}
use Rattle.cam_tiles.proofs.GridLemmas.{long}
use Rattle.cam_tiles.proofs.StepLemmas.{fits_near, fits_short, long_near, no_step, right_is, way_kept, way_right}
use Rattle.cam_tiles.proofs.WindowLemmas.{IsNear}

module _ (g : Grid) (columns : ℕ) (wide : IsWideGrid g columns) where
  first_near : IsNear g.x
  first_near = subst IsNear (no_step g.x g.step) (wide.centres 0 0 wide.count.0 wide.grid.rows.0).x

  last_near : IsNear (g.x +ℤ pos (columns - 1) *ℤ g.step)
  last_near = (wide.centres (columns - 1) 0 (omega (arith, wide.count.0)) wide.grid.rows.0).x

  module _ (fits : FitsSigned w64 g.step) (n : ℤ) (is_last : n ≡ pos (columns - 1)) where
    way_is : long n *ℤ long g.step ≡ pos (columns - 1) *ℤ g.step
    way_is = way_kept n g.step (columns - 1) is_last (omega (arith, wide.count.1)) fits

    short : unsigned_abs (pos (columns - 1) *ℤ g.step) < 4000000000
    short = way_right g.x _ first_near last_near

    pub last_way_fits : FitsSigned w64 (long n *ℤ long g.step)
    last_way_fits = fits_short _ _ way_is short

    last_is : long g.x +ℤ long (long n *ℤ long g.step) ≡ g.x +ℤ pos (columns - 1) *ℤ g.step
    last_is = right_is g.x _ _ way_is first_near short

    pub last_fits : FitsSigned w64 (long g.x +ℤ long (long n *ℤ long g.step))
    last_fits = fits_near _ _ last_is last_near

    pub last_kept : long (long g.x +ℤ long (long n *ℤ long g.step)) ≡ g.x +ℤ pos (columns - 1) *ℤ g.step
    last_kept = long_near _ _ last_is last_near

  -- each centre lies between the corners
  pub between_corners : (column row : ℕ) → column < columns → row < g.rows → (left bottom right top : ℤ) → left ≡ g.x
      → top ≡ g.y → right ≡ g.x +ℤ pos (columns - 1) *ℤ g.step → bottom ≡ g.y -ℤ pos (g.rows - 1) *ℤ g.step
      → IsInBox (record { x = left; y = bottom }) (record { x = right; y = top }) (centre_in g column row)
  between_corners column row near below left bottom right top is_left is_top is_right is_bottom =
      grind (arith, steps_on, steps_up, ints)
