-- Words of tiles side by side, whose marks are joined with others.
use Rattle.std.specs.Prelude.{◌↔◌, ℕ, ◌+◌, ◌*◌, ◌<◌, ◌≤◌, IsTrue, List, pos, ◌+ℤ◌, ◌-ℤ◌, ◌*ℤ◌}
use Rattle.cam_units.specs.Boxes.{Holds}
use Rattle.cam_units.specs.declared.bounds.Bounds.{Bounds}
use Rattle.cam_units.specs.declared.point.Point.{Point}
use Rattle.cam_units.specs.declared.point.Spot.{Spot}
use Rattle.cam_objects.specs.Image.{relative}
use Rattle.cam_tiles.specs.Machinery.Marks.{is_marked}
use Rattle.cam_tiles.specs.declared.grid.Grid.{Grid}
use Rattle.cam_tiles.specs.declared.masks.join.Join.{Join}
use Rattle.cam_tiles.specs.declared.span.Span.{Span}
use Rattle.cam_tiles.specs.Machinery.Masks.{joined}
use Rattle.cam_tiles.specs.Tiles.{centre_in}

-- the columns before one are joined with what is held in a row and a column
pub record JoinsColumns (columns : ℕ) (how : Join) (IsHeld : ℕ → ℕ → Type 0) (old new : List ℕ) : Type 0 where
  pub each : (row column : ℕ) → row < 64 → column < columns
      → IsTrue (is_marked new row column) ↔ joined how (IsTrue (is_marked old row column)) (IsHeld row column)

-- the centres are joined with those that something holds, in the rows of a grid that go on to the right
pub record JoinsCentres (g : Grid) (columns : ℕ) (how : Join) (IsHeld : Spot → Type 0) (old new : List ℕ) : Type 0 where
  pub each : (column row : ℕ) → column < columns → row < g.rows
      → IsTrue (is_marked new row column)
      ↔ joined how (IsTrue (is_marked old row column)) (IsHeld (centre_in g column row))

-- the grid from a tile of the row on, as it is seen from a point
abbrev pub part_seen : Grid → ℕ → Point → Grid
part_seen g tile at = record {
  x = g.x +ℤ pos (64 * tile) *ℤ g.step -ℤ pos 2 *ℤ at.x;
  y = g.y -ℤ pos 2 *ℤ at.y;
  step = g.step;
  cols = g.cols;
  rows = g.rows;
}

-- a span of tiles takes up the columns of a row in which a box holds centres, as they are seen from a point
pub record AreReached (g : Grid) (columns : ℕ) (box : Bounds) (at : Point) (tiles : Span) : Type 0 where
  pub end : 64 * tiles.end < columns + 64
  pub each : (column row : ℕ) → column < columns → row < g.rows → Holds box (relative at (centre_in g column row))
      → (64 * tiles.first ≤ column) × (column < 64 * tiles.end)
