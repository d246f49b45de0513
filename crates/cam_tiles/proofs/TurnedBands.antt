-- Rows of a band, one below another from its first, as they are seen from a point.
use Rattle.std.proofs.Common.{◌≡◌, ℕ, ◌+◌, ◌-◌, ◌<◌, ◌≤◌, ℤ, pos, ◌+ℤ◌, ◌-ℤ◌, ◌*ℤ◌, List, length, slice_index, ap, rules, arith}
use Rattle.std.proofs.lemmas.Bool.{cases_lt}
use Rattle.std.proofs.lemmas.Int.{ints}
use Rattle.std.proofs.lemmas.List.{places}
use borrow.Rule.Slice.PartMut.{mid_of, put_mid}
use Rattle.cam_units.specs.declared.point.Point.{Point}
use Rattle.cam_units.proofs.Ring.{equal}
use Rattle.cam_units.proofs.Ring.Polynomial.{Atom, Difference, Product}
use Rattle.cam_objects.specs.Image.{relative}
use Rattle.cam_rows.specs.declared.centres.Centres.{Centres}
use Rattle.cam_rows.specs.Rows.{centre_at, row_below}
use Rattle.cam_tiles.specs.declared.grid.Grid.{Grid}
use Rattle.cam_tiles.specs.Tiles.{centre_in}

-- ---- a part of a list that is written

module _ (first end : ℕ) (old part : List ℕ) (some : first < end) (long : end ≤ length old)
    (size : length part ≡ end - first) where
  abbrev pub written : List ℕ
  written = put_mid first (end - first) old part

  pub part_at : (row : ℕ) → first ≤ row → row < end → slice_index written row ≡ slice_index part (row - first)
  part_at row after until = search (rules, places)

pub part_length : (first end : ℕ) (old : List ℕ) → first < end → end ≤ length old
    → length (mid_of first (end - first) old) ≡ end - first
part_length first end old some long = search (rules, places)

-- ---- centres

step_is : (x s first step away : ℤ) → x +ℤ pos 0 *ℤ s ≡ first +ℤ pos 0 *ℤ step -ℤ away
    → x +ℤ pos 1 *ℤ s ≡ first +ℤ pos 1 *ℤ step -ℤ away → s ≡ step
step_is x s first step away e f = omega (arith, ints)

further_down : (y step away : ℤ) (first k : ℕ)
    → y -ℤ pos first *ℤ step -ℤ away -ℤ pos k *ℤ step ≡ y -ℤ pos (first + k) *ℤ step -ℤ away
further_down y step away first k =
    equal
    (Difference (Difference (Difference (Atom y) (Product (Atom (pos first)) (Atom step))) (Atom away))
    (Product (Atom (pos k)) (Atom step)))
    (Difference (Difference (Atom y) (Product (Atom (pos (first + k))) (Atom step))) (Atom away))
    (omega arith)

-- the rows below one of a grid are those of the grid
module _ (g : Grid) (at : Point) (top : Centres) (first : ℕ)
    (centres : (i : ℕ) → centre_at top i ≡ relative at (centre_in g i first)) where
  step_kept : top.step ≡ g.step
  step_kept =
      step_is top.x top.step g.x g.step (pos 2 *ℤ at.x) (ap (λ s. s.x) (centres 0))
      (ap (λ s. s.x) (centres 1))

  height_below : (k : ℕ)
      → top.y -ℤ pos k *ℤ top.step ≡ g.y -ℤ pos (first + k) *ℤ g.step -ℤ pos 2 *ℤ at.y
  height_below k = grind (arith, step_kept, further_down)

  pub below_seen : (k i : ℕ) → centre_at (row_below top k) i ≡ relative at (centre_in g i (first + k))
  below_seen k i = λ j. record { x = (centres i j).x; y = height_below k j }

-- a row lies above a band, in it or below it
pub by_band : (first end row : ℕ) {Q : Type 0} → (row < first → Q) → (first ≤ row → row < end → Q) → (end ≤ row → Q) → Q
by_band first end row above within below = grind (arith, cases_lt)
