-- Masks as words: a mask that marks what an image blackens has the rows of its tile.
use Rattle.std.proofs.Common.{rules, ◌≡◌, ◌↔◌, ℕ, ◌^◌, ◌<◌, Bool, false, IsTrue, get_or, sym, ◌∙◌, arith}
use Rattle.std.specs.Int.{IsBitSet, bit_at}
use Rattle.std.proofs.lemmas.Bool.{cases_lt, false≢true, le-ltb}
use Rattle.std.proofs.lemmas.Grind.{same_number_lists}
use Rattle.std.proofs.lemmas.Nat.Bits.{bit_at-lt, same_from_bits_below}
use Rattle.cam_units.specs.declared.point.Spot.{Spot}
use Rattle.cam_rows.proofs.SetBits.{set_is_one}
use Rattle.cam_tiles.specs.declared.grid.Grid.{Grid}
use Rattle.cam_tiles.specs.Machinery.Masks.{IsIn, IsMarked, IsMask, Marking}
use Rattle.cam_tiles.specs.Pbm.{bit_of}
use Rattle.cam_tiles.specs.Tiles.{centre_in, is_black_in, tile_rows, word}
use Rattle.cam_tiles.proofs.TileRowLemmas.{clear_past, get_or-tile_rows, length-tile_rows, shown_within}
use Rattle.cam_tiles.proofs.WordLemmas.{bit_at-word, word-lt}

-- a bit by what tells whether it is set
pub bit_told : (b : Bool) (n i : ℕ) → IsBitSet n i ↔ IsTrue b → bit_at n i ≡ bit_of b
bit_told b n i told = grind (arith, set_is_one, bit_at-lt)

-- what is not marked is not black
neither : (P : Type 0) (b : Bool) → (P → ⊥) → b ≡ false → P ↔ IsTrue b
neither P b unmarked clear = (λ h. absurd (unmarked h), λ black. absurd (false≢true (sym clear ∙ black)))

-- a place of a tile is marked where the image is black within the grid, and nowhere else
place_told : (image : Spot → Bool) (g : Grid) (m : Marking) (row i : ℕ) → (IsMarked m i row → IsIn g i row)
    → (IsIn g i row → IsMarked m i row ↔ IsTrue (image (centre_in g i row)))
    → IsMarked m i row ↔ IsTrue (is_black_in image g row i)
place_told image g m row i within marks = grind (arith, cases_lt, shown_within, neither, clear_past, le-ltb)

-- a row is the word of its bits
row_told : (bit : ℕ → Bool) (row : ℕ) → row < 2 ^ 64 → ((i : ℕ) → i < 64 → IsBitSet row i ↔ IsTrue (bit i))
    → row ≡ word bit 64
row_told bit row fits set = search (rules, same_from_bits_below, word-lt, bit_told, bit_at-word)

-- the rows of a mask that marks the centres where an image is black
pub rows_of_marks : (image : Spot → Bool) (g : Grid) (m : Marking) → IsMask m
    → ((column row : ℕ) → IsIn m.grid column row → IsIn g column row)
    → ((column row : ℕ) → IsIn g column row → IsMarked m column row ↔ IsTrue (image (centre_in g column row)))
    → m.rows ≡ tile_rows image g
rows_of_marks image g m mask within marks =
    same_number_lists m.rows (tile_rows image g) (mask.whole ∙ sym (length-tile_rows image g)) (λ row below.
    let low : row < 64 = omega (arith, below, mask.whole) in
    row_told (is_black_in image g row) (get_or m.rows row 0) (mask.fit row) (λ i near.
    place_told image g m row i (λ marked. within i row (mask.inside i row near low marked)) (marks i row))
    ∙ sym (get_or-tile_rows image g row low))
