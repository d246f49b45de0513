-- Marks that are spread, tile by tile.
use Rattle.std.specs.Prelude.{◌≡◌, ◌⊎◌, ℕ, ◌+◌, ◌*◌, ◌<◌, ◌≤◌, List, slice_index}
use Rattle.cam_shapes.specs.Sides.{differ}
use Rattle.cam_tiles.specs.Machinery.Marks.{is_set, turns_past}

-- in the first rows of a tile the columns are turned over where the tile right of it says so, and all other words are
-- as they were
pub record AreRowsSpread (tile rows : ℕ) (old new : List ℕ) : Type 0 where
  pub done : (row i : ℕ) → row < rows → i < 64
      → is_set (slice_index new (64 * tile + row)) i
      ≡ differ (is_set (slice_index old (64 * tile + row)) i) (turns_past old row (tile + 1))
  pub others : (word : ℕ) → (word < 64 * tile) ⊎ (64 * tile + rows ≤ word)
      → slice_index new word ≡ slice_index old word
