-- Laws of tables: tile by tile, pixel by pixel, and as pictures.
use Rattle.std.specs.Prelude.{◌≡◌, ℕ, ◌-◌, ◌<◌, Bool, if◌then◌else◌, nat_lt, List, Some, None, All, count_by, is_none, is_some, take}
use Rattle.cam_units.specs.Boxes.{Holds}
use Rattle.cam_units.specs.declared.bounds.Bounds.{Bounds}
use Rattle.cam_units.specs.declared.point.Spot.{Spot}
use Rattle.cam_tiles.specs.declared.window.Window.{Window}
use Rattle.cam_tiles.specs.Picture.{centre_of, plot_of}
use Rattle.cam_tiles.specs.Tables.{IsTable, Table, Tile, blank, dirty_count, pbm_of, pixel_of, redrawn, tile_in}
use Rattle.cam_tiles.specs.Tiles.{grid_of, tile_of, tile_rows, tiles_of}
use Rattle.cam_tiles.specs.Touched.{is_touched, touched_by}

-- boxes make the tiles and the pixels unknown that they touch, and keep the others
pub record TouchLaw : Type 0 where
  pub tiles : (t : Table) (boxes : List Bounds) (k : ℕ)
      → tile_in (touched_by boxes t) k ≡ (if is_touched t.window boxes k then None else tile_in t k)
  pub pixels : (t : Table) (boxes : List Bounds) (column row : ℕ) → pixel_of (touched_by boxes t) column row
      ≡ (if is_touched t.window boxes (tile_of t.window column row) then None else pixel_of t column row)

-- a tile is clean, or is drawn where fewer than n dirty ones stand before it
abbrev pub drawn_tile : (Spot → Bool) → ℕ → Table → ℕ → Tile
drawn_tile image n t k =
    if is_some (tile_in t k) then tile_in t k
    else (if nat_lt (count_by is_none (take k t.tiles)) n then Some (tile_rows image (grid_of t.window k)) else None)

-- the dirty tiles of least number are drawn, and all others kept
pub record RedrawLaw : Type 0 where
  pub tiles : (image : Spot → Bool) (n : ℕ) (t : Table) (k : ℕ) → IsTable t → k < tiles_of t.window
      → tile_in (redrawn image n t) k ≡ drawn_tile image n t k
  pub count : (image : Spot → Bool) (n : ℕ) (t : Table) → dirty_count (redrawn image n t) ≡ dirty_count t - n

-- each clean tile shows the image
abbrev pub IsPictured : (Spot → Bool) → Table → Type 0
IsPictured image t = (k : ℕ) (rows : List ℕ) → tile_in t k ≡ Some rows → rows ≡ tile_rows image (grid_of t.window k)

-- the images are the same at each place outside the boxes
abbrev pub AgreeOutside : List Bounds → (Spot → Bool) → (Spot → Bool) → Type 0
AgreeOutside boxes image other = (s : Spot) → All (λ box. ¬ Holds box s) boxes → image s ≡ other s

-- Clean tiles show an image from the beginning on, where tiles are drawn from it, and where the image changes in boxes
-- that touch them. Then each pixel that is known is black where the image is, and the file of clean tiles is its plot.
pub record PictureLaw : Type 0 where
  pub begin : (image : Spot → Bool) (w : Window) → IsPictured image (blank w)
  pub draw : (image : Spot → Bool) (n : ℕ) (t : Table) → IsPictured image t → IsPictured image (redrawn image n t)
  pub change : (image other : Spot → Bool) (boxes : List Bounds) (t : Table) → AgreeOutside boxes image other
      → IsPictured image t → IsPictured other (touched_by boxes t)
  pub pixels : (image : Spot → Bool) (t : Table) (column row : ℕ) (black : Bool) → IsTable t → IsPictured image t
      → pixel_of t column row ≡ Some black → black ≡ image (centre_of t.window column row)
  pub plot : (image : Spot → Bool) (t : Table) → IsTable t → IsPictured image t → dirty_count t ≡ 0
      → pbm_of t ≡ plot_of t.window image
