-- Places at equal distances in a line.
use Rattle.std.specs.Prelude.{◌↔◌, ℕ, ◌<◌, ◌≤◌, ℤ, pos, ◌+ℤ◌, ◌*ℤ◌, ◌≤ℤ◌}
use Rattle.std.specs.Int.RustNames.{unsigned_abs}
use Rattle.cam_units.specs.Boxes.{Holds}
use Rattle.cam_units.specs.declared.bounds.Bounds.TheVariants.{Closed}
use Rattle.cam_units.specs.declared.point.Spot.{Spot}
use Rattle.cam_tiles.specs.declared.grid.Grid.{Grid}
use Rattle.cam_tiles.specs.declared.lattice.Lattice.{Lattice}
use Rattle.cam_tiles.specs.declared.span.Span.{Span}
use Rattle.cam_tiles.specs.Tiles.{centre_in}

-- the place of a number, which is counted from the first one
abbrev pub place_at : Lattice → ℕ → ℤ
place_at l n = l.first +ℤ pos n *ℤ l.step

-- places that lie each behind the one before it, and far from the greatest numbers of 64 bits
pub record IsLattice (l : Lattice) : Type 0 where
  pub step : pos 1 ≤ℤ l.step
  pub places : (n : ℕ) → n < l.count → unsigned_abs (place_at l n) < 8000000000

-- the columns and the rows of a box: of the centres, it holds those that stand in both
pub record AreReachedBy (low high : Spot) (g : Grid) (count : ℕ) (columns rows : Span) : Type 0 where
  pub left_of : columns.end ≤ count
  pub above : rows.end ≤ g.rows
  pub each : (column row : ℕ) → column < count → row < g.rows
      → Holds (Closed low high) (centre_in g column row)
      ↔ (((columns.first ≤ column) × (column < columns.end)) × ((rows.first ≤ row) × (row < rows.end)))
