-- The box of a grid's centres: from the first one to the last.
use Rattle.std.proofs.Common.{◌≡◌, ℕ, ◌-◌, ◌<◌, ◌≤◌, ℤ, pos, ◌+ℤ◌, ◌-ℤ◌, ◌*ℤ◌, ◌≤ℤ◌, arith}
use Rattle.std.proofs.lemmas.Int.{ints}
use Rattle.std.proofs.lemmas.Nat.{mul-le}
use Rattle.cam_units.specs.Boxes.{IsInBox}
use Rattle.cam_tiles.specs.declared.grid.Grid.{Grid}
use Rattle.cam_tiles.specs.Tiles.{IsGrid, centre_in}

-- more steps lead further
pub steps_up : (a b : ℕ) (s : ℤ) → pos 1 ≤ℤ s → a ≤ b → (pos a *ℤ s) ≤ℤ (pos b *ℤ s)
steps_up a b s some more = grind (arith, mul-le, ints)

pub steps_on : (a : ℕ) (s : ℤ) → pos 1 ≤ℤ s → pos 0 ≤ℤ (pos a *ℤ s)
steps_on a s some = grind (arith, ints)

module _ (g : Grid) (column row : ℕ) (grid : IsGrid g) (inside : column < g.cols) (below : row < g.rows) where
  across : (pos column *ℤ g.step) ≤ℤ (pos (g.cols - 1) *ℤ g.step)
  across = steps_up column (g.cols - 1) g.step grid.step (omega arith)

  down : (pos row *ℤ g.step) ≤ℤ (pos (g.rows - 1) *ℤ g.step)
  down = steps_up row (g.rows - 1) g.step grid.step (omega arith)

  pub between_ends : (left bottom right top : ℤ) → left ≡ g.x → top ≡ g.y
      → right ≡ g.x +ℤ pos (g.cols - 1) *ℤ g.step → bottom ≡ g.y -ℤ pos (g.rows - 1) *ℤ g.step
      → IsInBox (record { x = left; y = bottom }) (record { x = right; y = top }) (centre_in g column row)
  between_ends left bottom right top is_left is_top is_right is_bottom = grind (arith, steps_on, ints, across, down)
