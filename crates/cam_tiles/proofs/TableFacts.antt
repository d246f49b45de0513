-- Tables tile by tile and pixel by pixel: what stands at a number, also after tiles are wiped or drawn.
use Rattle.std.proofs.Common.{◌≡◌, ℕ, zero, suc, ◌+◌, ◌<◌, Bool, false, cond, ◌⊎◌, inl, List, [], ◌∷◌, length, replicate}
use Rattle.std.proofs.Common.{slice_get, slice_index_or, Option, Some, None, option_and_then, option_map, unwrap_or, count_by}
use Rattle.std.proofs.Common.{is_none, refl, sym, ap, ◌∙◌, ◌*◌, ◌/◌, arith}
use Rattle.std.proofs.lemmas.Bool.{and_from, lt-ltb}
use Rattle.std.proofs.lemmas.Option.{unwrap_or-slice_get}
use Rattle.std.proofs.lemmas.List.Sums.{sum_by-cons}
use Rattle.cam_units.specs.declared.bounds.Bounds.{Bounds}
use Rattle.cam_tiles.specs.declared.window.Window.{Window}
use Rattle.cam_tiles.specs.Tables.{Table, Tile, blank, drawn_from, is_pixel_black, tile_in}
use Rattle.cam_tiles.specs.Tiles.{across, tile_of, tiles_of}
use Rattle.cam_tiles.specs.Touched.{box_touched, touched_by, touches, wiped_from}
use Rattle.cam_tiles.proofs.TablePixels.{bit_in}

abbrev tile_at : List Tile → ℕ → Tile
tile_at tiles k = option_and_then (λ tile. tile) (slice_get tiles k)

joined : (tile : Option Tile) → option_and_then (λ tile. tile) tile ≡ unwrap_or tile None
joined tile = grind arith

-- the tile of a pixel as the code finds it
pub tile_found : (t : Table) (column row wide : ℕ) (tile : Tile) → wide ≡ across t.window
    → slice_index_or t.tiles (row / 64 * wide + column / 64) None ≡ tile
    → tile_in t (tile_of t.window column row) ≡ tile
tile_found t column row wide tile is_wide found = grind (arith, joined, unwrap_or-slice_get)

-- a pixel of the window as its tile has it
pub black_in_tile : (t : Table) (tile : Tile) (column row : ℕ) → column < t.window.width → row < t.window.height
    → tile_in t (tile_of t.window column row) ≡ tile
    → is_pixel_black t column row ≡ unwrap_or (option_map (bit_in column row) tile) false
black_in_tile t tile column row within below is = grind (arith, bit_in, and_from, lt-ltb)

none_at : (n k : ℕ) → tile_at (replicate n None) k ≡ None
none_at zero k = refl
none_at (suc n) zero = refl
none_at (suc n) (suc k) = none_at n k

pub no_tile_in_blank : (w : Window) (k : ℕ) → tile_in (blank w) k ≡ None
no_tile_in_blank w k = none_at (tiles_of w) k

none_either : (b : Bool) → ◌≡◌ {A = Tile} (cond b None None) None
none_either b = grind arith

pub tile_at_wiped : (is_wiped : ℕ → Bool) (from : ℕ) (tiles : List Tile) (k : ℕ)
    → tile_at (wiped_from is_wiped from tiles) k ≡ cond (is_wiped (from + k)) None (tile_at tiles k)
tile_at_wiped is_wiped from [] k = sym (none_either (is_wiped (from + k)))
tile_at_wiped is_wiped from (tile ∷ tiles) zero = grind arith
tile_at_wiped is_wiped from (tile ∷ tiles) (suc k) =
    let next : from + 1 + k ≡ from + suc k = omega arith in
    tile_at_wiped is_wiped (from + 1) tiles k ∙ ap (λ n. cond (is_wiped n) None (tile_at tiles k)) next

-- a clean tile of a list with drawn ones was there or is drawn
pub tile_at_drawn : (draw : ℕ → List ℕ) (from n : ℕ) (tiles : List Tile) (k : ℕ) (rows : List ℕ)
    → tile_at (drawn_from draw from n tiles) k ≡ Some rows
    → (tile_at tiles k ≡ Some rows) ⊎ (rows ≡ draw (from + k))
tile_at_drawn draw from n [] k rows is = inl is
tile_at_drawn draw from n (Some tile ∷ tiles) zero rows is = inl is
tile_at_drawn draw from n (Some tile ∷ tiles) (suc k) rows is = grind (arith, tile_at_drawn draw (from + 1) n tiles k rows is)
tile_at_drawn draw from zero (None ∷ tiles) k rows is = inl is
tile_at_drawn draw from (suc n) (None ∷ tiles) zero rows is = grind arith
tile_at_drawn draw from (suc n) (None ∷ tiles) (suc k) rows is = grind (arith, tile_at_drawn draw (from + 1) n tiles k rows is)

count_more : (tile : Tile) (tiles : List Tile)
    → count_by is_none (tile ∷ tiles) ≡ cond (is_none tile) 1 0 + count_by is_none tiles
count_more tile tiles = sum_by-cons (λ tile. cond (is_none tile) 1 0) tile tiles

-- where no tile is dirty each is clean
pub clean_tile : (tiles : List Tile) (k : ℕ) → count_by is_none tiles ≡ 0 → k < length tiles
    → (rows : List ℕ) × (tile_at tiles k ≡ Some rows)
clean_tile [] k none within = absurd (omega arith)
clean_tile (Some rows ∷ tiles) zero none within = (rows, refl)
clean_tile (Some rows ∷ tiles) (suc k) none within =
    clean_tile tiles k (omega (arith, count_more (Some rows) tiles)) (omega arith)
clean_tile (None ∷ tiles) k none within = absurd (omega (arith, count_more None tiles))

-- boxes keep the window
pub touched_window : (boxes : List Bounds) (t : Table) → (touched_by boxes t).window ≡ t.window
touched_window [] t = refl
touched_window (box ∷ boxes) t = touched_window boxes (box_touched box t)

kept_tile : (b : Bool) (tile : Tile) (rows : List ℕ) → cond b None tile ≡ Some rows → (b ≡ false) × (tile ≡ Some rows)
kept_tile b tile rows is = grind arith

-- a tile after one box
pub touched_tile : (t : Table) (box : Bounds) (k : ℕ)
    → tile_in (box_touched box t) k ≡ cond (touches t.window box k) None (tile_in t k)
touched_tile t box k = grind (arith, tile_at_wiped)

-- one that is clean after a box was not touched, and is as before
pub untouched : (box : Bounds) (t : Table) (k : ℕ) (rows : List ℕ) → tile_in (box_touched box t) k ≡ Some rows
    → (touches t.window box k ≡ false) × (tile_in t k ≡ Some rows)
untouched box t k rows is = grind (arith, kept_tile, touched_tile)
