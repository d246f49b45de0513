-- Tables: what is kept of the tiles of a window.
use Rattle.std.specs.Prelude.{◌≡◌, ℕ, zero, suc, ◌+◌, ◌%◌, Bool, true, false, ◌&&◌, ◌==◌, if◌then◌else◌, nat_lt, List, [], ◌∷◌, length}
use Rattle.std.specs.Prelude.{slice_get, slice_index, replicate, count_by, unwrap_or}
use Rattle.std.specs.Prelude.{Option, Some, None, is_none, option_map, option_and_then}
use Rattle.std.specs.Int.{bit_at}
use Rattle.cam_units.specs.declared.point.Spot.{Spot}
use Rattle.cam_tiles.specs.declared.fault.RasterFault.{RasterFault}
use Rattle.cam_tiles.specs.declared.fault.RasterFault.TheVariants.{Memory, StillDirty, WindowRefused}
use Rattle.cam_tiles.specs.declared.window.Window.{Window}
use Rattle.cam_tiles.specs.Pbm.{pbm}
use Rattle.cam_tiles.specs.Picture.{accepts}
use Rattle.cam_tiles.specs.Tiles.{grid_of, tile_of, tile_rows, tiles_of}

-- the rows of a tile from the top, bit i for column i; or nothing where it is dirty
abbrev pub Tile : Type 0
Tile = Option (List ℕ)

-- a window, and its tiles in their order
pub record Table : Type 0 where
  pub window : Window
  pub tiles : List Tile

-- a table with each tile of an accepted window
pub record IsTable (t : Table) : Type 0 where
  pub accepted : accepts t.window ≡ true
  pub full : length t.tiles ≡ tiles_of t.window

-- each tile is dirty
abbrev pub blank : Window → Table
blank w = record { window = w; tiles = replicate (tiles_of w) None }

abbrev pub dirty_count : Table → ℕ
dirty_count t = count_by is_none t.tiles

-- what is kept of a tile; nothing of one that is not there
abbrev pub tile_in : Table → ℕ → Tile
tile_in t k = option_and_then (λ tile. tile) (slice_get t.tiles k)

-- whether a pixel is black, where its tile is clean
abbrev pub pixel_of : Table → ℕ → ℕ → Option Bool
pixel_of t column row =
    if nat_lt column t.window.width && nat_lt row t.window.height
    then option_map (λ rows. bit_at (slice_index rows (row % 64)) (column % 64) == 1)
    (tile_in t (tile_of t.window column row))
    else None

-- whether a pixel is known to be black
abbrev pub is_pixel_black : Table → ℕ → ℕ → Bool
is_pixel_black t column row = unwrap_or (pixel_of t column row) false

-- the file of a table whose tiles are clean
unfoldable pub pbm_of : Table → List ℕ
pbm_of t = pbm (is_pixel_black t) t.window.width t.window.height

-- the tiles from number k on, the first n dirty ones of them drawn
abbrev pub drawn_from : (ℕ → List ℕ) → ℕ → ℕ → List Tile → List Tile
drawn_from draw k n [] = []
drawn_from draw k n (Some rows ∷ tiles) = Some rows ∷ drawn_from draw (k + 1) n tiles
drawn_from draw k zero (None ∷ tiles) = None ∷ tiles
drawn_from draw k (suc n) (None ∷ tiles) = Some (draw k) ∷ drawn_from draw (k + 1) n tiles

-- and all dirty ones of them
abbrev pub all_drawn_from : (ℕ → List ℕ) → ℕ → List Tile → List Tile
all_drawn_from draw k [] = []
all_drawn_from draw k (Some rows ∷ tiles) = Some rows ∷ all_drawn_from draw (k + 1) tiles
all_drawn_from draw k (None ∷ tiles) = Some (draw k) ∷ all_drawn_from draw (k + 1) tiles

-- the n dirty tiles of least number, or all where there are fewer, show the image
abbrev pub redrawn : (Spot → Bool) → ℕ → Table → Table
redrawn image n t = record {
  window = t.window;
  tiles = drawn_from (λ k. tile_rows image (grid_of t.window k)) 0 n t.tiles;
}

-- why there is no raster, and why there is no file of one; memory is refused only where nothing else is
abbrev pub window_fault : Window → Option RasterFault
window_fault w = if accepts w then None else Some WindowRefused

abbrev pub file_fault : Table → Option RasterFault
file_fault t = if nat_lt 0 (dirty_count t) then Some StillDirty else None

abbrev pub IsRefusal : Option RasterFault → RasterFault → Type 0
IsRefusal None fault = fault ≡ Memory
IsRefusal (Some told) fault = fault ≡ told
