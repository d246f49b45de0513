-- Tiles of which some are drawn.
use Rattle.std.specs.Prelude.{◌≡◌, ◌⊎◌, ℕ, ◌+◌, ◌<◌, List, Some, None, length, slice_index_or}
use Rattle.cam_tiles.specs.Tables.{Tile}

-- a tile is as it was, or was dirty and is drawn
abbrev pub IsKeptOrDrawn : List ℕ → Tile → Tile → Type 0
IsKeptOrDrawn rows old new = (new ≡ old) ⊎ ((old ≡ None) × (new ≡ Some rows))

-- some of the dirty tiles from a number on were drawn, and no others changed
pub record IsPartlyDrawn (draw : ℕ → List ℕ) (first : ℕ) (old new : List Tile) : Type 0 where
  pub size : length new ≡ length old
  pub each : (k : ℕ) → k < length old
      → IsKeptOrDrawn (draw (first + k)) (slice_index_or old k None) (slice_index_or new k None)
