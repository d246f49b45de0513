-- What boxes leave of the tiles and of the pixels.
use Rattle.std.proofs.Common.{arith, ◌≡◌, ℕ, ◌%◌, Bool, ◌&&◌, ◌||◌, ◌==◌, cond, nat_lt, List, [], ◌∷◌, refl, ap, ◌∙◌}
use Rattle.std.specs.Prelude.{None, option_map, slice_index}
use Rattle.std.specs.Int.{bit_at}
use Rattle.cam_units.specs.declared.bounds.Bounds.{Bounds}
use Rattle.cam_tiles.specs.declared.window.Window.{Window}
use Rattle.cam_tiles.specs.Tables.{Table, Tile, pixel_of, tile_in}
use Rattle.cam_tiles.specs.TileLaws.{TouchLaw}
use Rattle.cam_tiles.specs.Tiles.{tile_of}
use Rattle.cam_tiles.specs.Touched.{is_touched, box_touched, touched_by, touches}
use Rattle.cam_tiles.proofs.TableFacts.{touched_tile, touched_window}

either : (a b : Bool) (tile : Tile) → cond b None (cond a None tile) ≡ cond (a || b) None tile
either a b tile = grind arith

pub touched_tiles : (t : Table) (boxes : List Bounds) (k : ℕ)
    → tile_in (touched_by boxes t) k ≡ cond (is_touched t.window boxes k) None (tile_in t k)
touched_tiles t [] k = refl
touched_tiles t (box ∷ boxes) k =
    touched_tiles (box_touched box t) boxes k
    ∙ ap (λ tile. cond (is_touched t.window boxes k) None tile) (touched_tile t box k)
    ∙ either (touches t.window box k) (is_touched t.window boxes k) (tile_in t k)

-- a pixel is known where its tile is kept
known : (inside wiped : Bool) (tile : Tile) (read : List ℕ → Bool)
    → cond inside (option_map read (cond wiped None tile)) None
    ≡ cond wiped None (cond inside (option_map read tile) None)
known inside wiped tile read = grind arith

pub touched_pixels : (t : Table) (boxes : List Bounds) (column row : ℕ)
    → pixel_of (touched_by boxes t) column row
    ≡ cond (is_touched t.window boxes (tile_of t.window column row)) None (pixel_of t column row)
touched_pixels t boxes column row =
    let k = tile_of t.window column row in
    let inside : Window → Bool = λ w. nat_lt column w.width && nat_lt row w.height in
    let read : List ℕ → Bool = λ rows. bit_at (slice_index rows (row % 64)) (column % 64) == 1 in
    let tiles = touched_by boxes t in
    ap (λ w. cond (inside w) (option_map read (tile_in tiles (tile_of w column row))) None)
    (touched_window boxes t)
    ∙ ap (λ tile. cond (inside t.window) (option_map read tile) None) (touched_tiles t boxes k)
    ∙ known (inside t.window) (is_touched t.window boxes k) (tile_in t k) read

pub touch_law : TouchLaw
touch_law = record { tiles = touched_tiles; pixels = touched_pixels }
