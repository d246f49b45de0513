-- The pixels of a table, read from its tiles.
use Rattle.std.proofs.Common.{◌≡◌, ℕ, ◌+◌, ◌*◌, ◌/◌, ◌%◌, ◌^◌, ◌<◌, Bool, ◌==◌, List, get_or, bit_and, nat_eq, ap, arith}
use Rattle.std.specs.Int.{bit_at}
use Rattle.std.specs.Prelude.{option_map, slice_index}
use Rattle.std.proofs.lemmas.Bool.{lt-ltb}
use Rattle.std.proofs.lemmas.Nat.Bits.{shr_and_one}
use Rattle.std.proofs.lemmas.Option.{slice_get_read}
use Rattle.cam_tiles.specs.Tables.{IsTable, Table, Tile, pixel_of}
use Rattle.cam_tiles.specs.Tiles.{across}
use Rattle.cam_tiles.proofs.TileCounts.{few_tiles, tile_of-lt}

-- whether the pixel of a tile is black
abbrev pub bit_in : ℕ → ℕ → List ℕ → Bool
bit_in column row rows = bit_at (slice_index rows (row % 64)) (column % 64) == 1

-- the tile of a pixel by the number of tiles side by side
pub tile_number-lt : (t : Table) (wide column row : ℕ) → IsTable t → wide ≡ across t.window
    → column < t.window.width → row < t.window.height → row / 64 * wide + column / 64 < 262144
tile_number-lt t wide column row sound same inside below = grind (arith, tile_of-lt, few_tiles)

pub pixel_in : (t : Table) (wide column row : ℕ) (tile : Tile) → IsTable t → wide ≡ across t.window
    → column < t.window.width → row < t.window.height → tile ≡ get_or t.tiles (row / 64 * wide + column / 64) tile
    → pixel_of t column row ≡ option_map (bit_in column row) tile
pixel_in t wide column row tile sound same inside below read = grind (arith, slice_get_read, tile_of-lt, lt-ltb)

-- the bit as it is shifted down
pub bit_shifted : (rows : List ℕ) (column row : ℕ)
    → nat_eq (bit_and (slice_index rows (row % 64) / 2 ^ (column % 64)) 1) 1 ≡ bit_in column row rows
bit_shifted rows column row = ap (λ b. nat_eq b 1) (shr_and_one (slice_index rows (row % 64)) (column % 64))
