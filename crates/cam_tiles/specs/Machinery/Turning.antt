-- Contours in the rows of a tile, or of tiles side by side, by marks that each turn over the columns left of them.
use Rattle.std.specs.Prelude.{◌≡◌, ◌↔◌, ℕ, ◌%◌, ◌<◌, ◌≤◌, IsTrue, List, length}
use Rattle.cam_units.specs.declared.point.Spot.{Spot}
use Rattle.cam_tiles.specs.Machinery.Marks.{is_marked, is_turned}
use Rattle.cam_tiles.specs.declared.grid.Grid.{Grid}
use Rattle.cam_tiles.specs.declared.masks.field.Field.{Field}
use Rattle.cam_tiles.specs.Machinery.Masks.{turned_over}
use Rattle.cam_tiles.specs.Tiles.{centre_in}

-- whole tiles of marks, for so many columns at least
pub record AreWide (columns : ℕ) (marks : List ℕ) : Type 0 where
  pub room : columns ≤ length marks
  pub tiles : length marks % 64 ≡ 0

-- the centres that something holds were turned over in a field
pub record TurnsCentres (f : Field) (IsHeld : Spot → Type 0) (old new : List ℕ) : Type 0 where
  pub each : (column row : ℕ) → column < f.columns → row < f.grid.rows
      → IsTrue (is_turned new row column)
      ↔ turned_over (IsTrue (is_turned old row column)) (IsHeld (centre_in f.grid column row))

-- the centres that something holds are marked, and no others, in the rows of a grid that go on to the right
abbrev pub MarksCentres : Grid → ℕ → (Spot → Type 0) → List ℕ → Type 0
MarksCentres g columns IsHeld marks =
    (column row : ℕ) → column < columns → row < g.rows
    → IsTrue (is_marked marks row column) ↔ IsHeld (centre_in g column row)
