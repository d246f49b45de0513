-- Grids: the centres of a tile are those of its pixels, and places of the board.
use Rattle.std.proofs.Common.{◌≡◌, ℕ, ◌+◌, ◌*◌, ◌-◌, ◌/◌, ◌%◌, ◌<◌, ◌≤◌, ℤ, pos, ◌+ℤ◌, ◌-ℤ◌, ◌*ℤ◌, ◌≤ℤ◌, min, true, sym, ap}
use Rattle.std.proofs.Common.{subst, ◌∙◌, FitsSigned, w64, to_z, of_z, arith}
use Rattle.std.proofs.Math.Nat.{mod-lt}
use Rattle.std.proofs.lemmas.Int.{ints}
use Rattle.std.proofs.lemmas.Nat.{div_below}
use Rattle.cam_units.specs.Board.{IsPlace}
use Rattle.cam_units.specs.declared.point.Spot.{Spot}
use Rattle.cam_units.proofs.Ring.{equal}
use Rattle.cam_units.proofs.Ring.Polynomial.{Atom, Sum, Difference, Product}
use Rattle.cam_tiles.specs.declared.grid.Grid.{Grid}
use Rattle.cam_tiles.specs.declared.window.Window.{Window}
use Rattle.cam_tiles.specs.Picture.{accepts, centre_of, coarsest_pitch, middle}
use Rattle.cam_tiles.specs.Tiles.{IsGrid, across, centre_in, grid_of, first_column, tiles_of, top}
use Rattle.cam_tiles.proofs.WindowLemmas.{accepted}

-- middles that stand so many pitches further on, and so many back
pub further : (edge pitch : ℤ) (n steps : ℕ)
    → middle edge pitch n +ℤ pos steps *ℤ (pos 2 *ℤ pitch) ≡ middle edge pitch (n + steps)
further edge pitch n steps =
    equal
    (Sum (Sum (Product (Atom (pos 2)) (Atom edge)) (Product (Atom (pos (2 * n + 1))) (Atom pitch)))
    (Product (Atom (pos steps)) (Product (Atom (pos 2)) (Atom pitch))))
    (Sum (Product (Atom (pos 2)) (Atom edge)) (Product (Atom (pos (2 * (n + steps) + 1))) (Atom pitch)))
    (omega arith)

pub back : (edge pitch : ℤ) (n steps : ℕ)
    → middle edge pitch (n + steps) -ℤ pos steps *ℤ (pos 2 *ℤ pitch) ≡ middle edge pitch n
back edge pitch n steps =
    equal
    (Difference (Sum (Product (Atom (pos 2)) (Atom edge)) (Product (Atom (pos (2 * (n + steps) + 1))) (Atom pitch)))
    (Product (Atom (pos steps)) (Product (Atom (pos 2)) (Atom pitch))))
    (Sum (Product (Atom (pos 2)) (Atom edge)) (Product (Atom (pos (2 * n + 1))) (Atom pitch)))
    (omega arith)

-- the centres of a tile's grid are the centres of its pixels
pub centre_in_grid : (w : Window) (k column row : ℕ) → top w k + row < w.height
    → centre_in (grid_of w k) column row ≡ centre_of w (first_column w k + column) (top w k + row)
centre_in_grid w k column row below =
    let low = w.height - 1 - (top w k + row) in
    let up : w.height - 1 - top w k ≡ low + row = omega arith in
    let spot : ℤ → ℤ → Spot = λ x y. record { x = x; y = y } in
    let first : ℤ = middle w.x w.pitch (first_column w k) +ℤ pos column *ℤ (pos 2 *ℤ w.pitch) in
    ap (λ n. spot first (middle w.y w.pitch n -ℤ pos row *ℤ (pos 2 *ℤ w.pitch))) up
    ∙ ap (λ x. spot x (middle w.y w.pitch (low + row) -ℤ pos row *ℤ (pos 2 *ℤ w.pitch)))
    (further w.x w.pitch (first_column w k) column)
    ∙ ap (spot (middle w.x w.pitch (first_column w k + column))) (back w.y w.pitch low row)

-- each tile begins within the window
pub left_within : (w : Window) (k : ℕ) → 1 ≤ w.width → first_column w k < w.width
left_within w k some = let within : k % across w < across w = mod-lt k (omega arith) in omega arith

pub top_within : (w : Window) (k : ℕ) → 1 ≤ w.width → k < tiles_of w → top w k < w.height
top_within w k some there = grind (arith, div_below)

-- the grid of a tile lies on the board
pub on_board : (w : Window) (k : ℕ) → accepts w ≡ true → k < tiles_of w → IsGrid (grid_of w k)
on_board w k h there =
    let limits = accepted w h in
    let from_left = left_within w k limits.width.0 in
    let from_top = top_within w k limits.width.0 there in
    record {
      step = omega (arith, ints, limits.pitch);
      columns = (omega arith, omega arith);
      rows = (omega arith, omega arith);
      centres = λ column row c r. subst IsPlace (sym (centre_in_grid w k column row (omega (arith, r))))
          (limits.centres (first_column w k + column) (top w k + row) (omega arith) (omega arith));
    }

-- a number as code of 64 bits keeps it
abbrev pub long : ℤ → ℤ
long z = to_z w64 (of_z w64 z)

pub twice_fits : (pitch : ℤ) → pos 1 ≤ℤ pitch → pitch ≤ℤ pos coarsest_pitch → FitsSigned w64 (pos 2 *ℤ long pitch)
twice_fits pitch some most = omega (arith, ints)

pub twice_kept : (pitch : ℤ) → pos 1 ≤ℤ pitch → pitch ≤ℤ pos coarsest_pitch → long (pos 2 *ℤ long pitch) ≡ pos 2 *ℤ pitch
twice_kept pitch some most = omega (arith, ints)

-- the grid of a tile as the code computes it
pub grid_kept : (w : Window) (k a b : ℕ) (first : Spot) (columns_there rows_there : ℕ) → IsPlace first
    → accepts w ≡ true → a ≡ across w → b ≡ across w
    → first ≡ centre_of w (64 * (k % a)) (64 * (k / b))
    → columns_there ≡ min (w.width - 64 * (k % a)) 64 → rows_there ≡ min (w.height - 64 * (k / b)) 64
    → ◌≡◌ {A = Grid}
    record { x = long first.x; y = long first.y; step = long (pos 2 *ℤ long w.pitch); cols = columns_there; rows = rows_there }
    (grid_of w k)
grid_kept w k a b first columns_there rows_there place h wide wide_too is_first is_columns is_rows =
    grind (arith, accepted, twice_kept, ints)
