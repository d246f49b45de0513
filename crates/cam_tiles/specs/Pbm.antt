-- Raw PBM pictures (netpbm's pbm(5), "P4").
use Rattle.std.specs.Prelude.{◌≡◌, ℕ, ◌+◌, ◌*◌, ◌-◌, ◌/◌, ◌%◌, Bool, ◌&&◌, nat_lt, if◌then◌else◌}
use Rattle.std.specs.Prelude.{List, [], ◌∷◌, ◌++◌, length, map, codes, slice_index}
use Rattle.std.specs.Fmt.{decimal}
use Rattle.std.specs.Int.{bit_at}
use Rattle.std.specs.List.{range_with_len, flat_map}

-- P4, LF, the width, a space, the height, LF
abbrev pub header : ℕ → ℕ → List ℕ
header width height = codes "P4" ++ (10 ∷ []) ++ decimal width ++ codes " " ++ decimal height ++ (10 ∷ [])

-- 1 is black
abbrev pub bit_of : Bool → ℕ
bit_of black = if black then 1 else 0

-- eight pixels, the leftmost in the highest bit
unfoldable pub byte_of : (ℕ → Bool) → ℕ
byte_of black =
    128 * bit_of (black 0) + 64 * bit_of (black 1) + 32 * bit_of (black 2) + 16 * bit_of (black 3)
    + 8 * bit_of (black 4) + 4 * bit_of (black 5) + 2 * bit_of (black 6) + bit_of (black 7)

-- the bytes of a row
abbrev pub bytes_across : ℕ → ℕ
bytes_across width = (width + 7) / 8

-- the pixels of a row, clear behind its end
abbrev pub padded : (ℕ → Bool) → ℕ → ℕ → Bool
padded black width column = nat_lt column width && black column

unfoldable pub row_of : (ℕ → Bool) → ℕ → List ℕ
row_of black width = map (λ k. byte_of (λ i. padded black width (8 * k + i))) (range_with_len 0 (bytes_across width))

-- the file of a picture, given by its pixels at a column and a row; rows go from the top
unfoldable pub pbm : (ℕ → ℕ → Bool) → ℕ → ℕ → List ℕ
pbm black width height =
    header width height
    ++ flat_map (λ row. row_of (λ column. black column row) width) (range_with_len 0 height)

-- the byte of a pixel, and its bit there
abbrev pub byte_at : List ℕ → ℕ → ℕ → ℕ → ℕ → ℕ
byte_at file width height column row =
    slice_index file (length (header width height) + row * bytes_across width + column / 8)

abbrev pub IsPixelSet : List ℕ → ℕ → ℕ → ℕ → ℕ → Type 0
IsPixelSet file width height column row = bit_at (byte_at file width height column row) (7 - column % 8) ≡ 1
