-- Masks of shapes, row by row.
use Rattle.std.proofs.Common.{◌≡◌, ◌≢◌, ◌↔◌, ℕ, ◌+◌, ◌^◌, ◌<◌, ◌≤◌, List, slice_index, slice_set}
use Rattle.std.proofs.Common.{get_or-set_other, get_or-set_same, arith}
use Rattle.std.proofs.Math.ListN.{length-set}
use Rattle.std.specs.Int.{IsBitSet}
use Rattle.std.proofs.lemmas.Bool.{cases_eq}
use Rattle.cam_units.specs.declared.point.Spot.{Spot}
use Rattle.cam_tiles.specs.declared.grid.Grid.{Grid}
use Rattle.cam_tiles.specs.Machinery.Masks.{AreMarksOf, IsIn, IsMarked, IsMask, Marking}
use Rattle.cam_tiles.specs.Tiles.{centre_in}

-- the rows before one are those of a shape
pub record AreShownTo (g : Grid) (IsHeld : Spot → Type 0) (row : ℕ) (m : Marking) : Type 0 where
  pub mask : IsMask m
  pub grid : m.grid ≡ g
  pub marks : (i k : ℕ) → IsIn g i k → k < row → IsMarked m i k ↔ IsHeld (centre_in g i k)

module _ (g : Grid) (IsHeld : Spot → Type 0) (m : Marking) where
  pub none_shown : IsMask m → m.grid ≡ g → AreShownTo g IsHeld 0 m
  none_shown mask is = record { mask = mask; grid = is; marks = λ i k there before. absurd (omega (arith, before)) }

  pub all_shown : (row : ℕ) → AreShownTo g IsHeld row m → g.rows ≤ row → AreMarksOf g IsHeld m
  all_shown row h all = record { grid = h.grid; marks = λ i k there. h.marks i k there (omega (arith, there.1, all)) }

  -- one row more
  module _ (row word : ℕ) (before : AreShownTo g IsHeld row m) (below : row < g.rows) (fits : word < 2 ^ 64)
      (here : (i : ℕ) → i < 64 → IsBitSet word i ↔ ((i < g.cols) × IsHeld (centre_in g i row))) where
    abbrev pub rows : List ℕ
    rows = slice_set m.rows row word

    within : row < m.grid.rows
    within = rw before.grid below

    this : (k : ℕ) → k ≡ row → slice_index rows k ≡ word
    this k e = rw e (get_or-set_same m.rows row word 0 (omega (arith, within, before.mask.grid.rows, before.mask.whole)))

    other : (k : ℕ) → k ≢ row → slice_index rows k ≡ slice_index m.rows k
    other k apart = get_or-set_other m.rows row k word 0 apart

    pub next_shown : AreShownTo g IsHeld (row + 1) (record { grid = m.grid; rows = rows })
    next_shown = grind (arith, length-set, cases_eq, this, other)
