-- The rows of a tile over a grid.
use Rattle.std.proofs.Common.{◌≡◌, ℕ, zero, suc, ◌<◌, ◌≤◌, Bool, false, length, get_or, replicate, refl, arith}
use Rattle.std.proofs.Math.Bool.{and-false}
use Rattle.std.proofs.lemmas.Bool.{le-ltb, lt-ltb}
use Rattle.std.proofs.lemmas.List.FromFn.{length-map-range_with_len, get_or-map-range_with_len}
use Rattle.cam_units.specs.declared.point.Spot.{Spot}
use Rattle.cam_tiles.specs.declared.grid.Grid.{Grid}
use Rattle.cam_tiles.specs.Tiles.{centre_in, is_black_in, tile_rows, word}

-- a row of a grid is clear past its columns
pub clear_past : (image : Spot → Bool) (g : Grid) (row i : ℕ) → g.cols ≤ i → is_black_in image g row i ≡ false
clear_past image g row i past = grind (arith, le-ltb, and-false)

-- and the image within them
pub shown_within : (image : Spot → Bool) (g : Grid) (row i : ℕ) → row < g.rows → i < g.cols
    → image (centre_in g i row) ≡ is_black_in image g row i
shown_within image g row i below inside = grind (arith, lt-ltb)

pub length-tile_rows : (image : Spot → Bool) (g : Grid) → length (tile_rows image g) ≡ 64
unfolding tile_rows
length-tile_rows image g = length-map-range_with_len (λ row. word (is_black_in image g row) 64) 0 64

pub get_or-tile_rows : (image : Spot → Bool) (g : Grid) (row : ℕ) → row < 64
    → get_or (tile_rows image g) row 0 ≡ word (is_black_in image g row) 64
unfolding tile_rows
get_or-tile_rows image g row below =
    get_or-map-range_with_len (λ row. word (is_black_in image g row) 64) 0 64 row row 0 below (omega arith)

clear_list : (n k : ℕ) → get_or {A = ℕ} (replicate n 0) k 0 ≡ 0
clear_list zero k = refl
clear_list (suc n) zero = refl
clear_list (suc n) (suc k) = clear_list n k

pub clear_rows : (k : ℕ) → get_or {A = ℕ} (replicate 64 0) k 0 ≡ 0
clear_rows k = clear_list 64 k
