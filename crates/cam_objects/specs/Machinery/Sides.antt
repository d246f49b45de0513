-- The cells of many items, side by side.
use Rattle.std.specs.Prelude.{◌≡◌, ℕ, ◌≤◌, length, slice_index}
use Rattle.cam_objects.specs.Cells.{Reaches}
use Rattle.cam_objects.specs.declared.cells.reach.Reach.{Reach}
use Rattle.cam_objects.specs.declared.cells.sides.Sides.{Sides}

-- so many items have all four
pub record HasSides (sides : Sides) (count : ℕ) : Type 0 where
  pub left : count ≤ length sides.left.now
  pub bottom : count ≤ length sides.bottom.now
  pub right : count ≤ length sides.right.now
  pub top : count ≤ length sides.top.now

pub record MeetsAt (sides : Sides) (k : ℕ) (reach : Reach) : Type 0 where
  pub left : slice_index sides.left.now k ≤ reach.right
  pub right : reach.left ≤ slice_index sides.right.now k
  pub below : slice_index sides.bottom.now k ≤ reach.top
  pub above : reach.bottom ≤ slice_index sides.top.now k

pub record AreSidesOf (reaches : Reaches) (sides : Sides) : Type 0 where
  pub left : sides.left.now ≡ reaches.left
  pub bottom : sides.bottom.now ≡ reaches.bottom
  pub right : sides.right.now ≡ reaches.right
  pub top : sides.top.now ≡ reaches.top
