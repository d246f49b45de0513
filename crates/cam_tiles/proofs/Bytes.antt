-- Bytes of a file out of the words of tiles: eight bits of a word the other way round, clear past the window's edge.
use Rattle.std.proofs.Common.{◌≡◌, ◌↔◌, ℕ, ◌+◌, ◌*◌, ◌-◌, ◌/◌, ◌%◌, ◌^◌, ◌<◌, ◌≤◌, Bool, false, ◌&&◌, IsTrue}
use Rattle.std.proofs.Common.{List, Some, None, option_map, unwrap_or, slice_index, slice_index_or, bit_and, nat_eq}
use Rattle.std.proofs.Common.{min, sym, subst, ap, ◌∙◌, arith}
use Rattle.std.specs.Int.{IsBitSet, bit_at}
use Rattle.std.proofs.lemmas.Bool.{cases_lt, eq-eqb, eqb-true, false≢true, lt-ltb, le-ltb}
use Rattle.std.proofs.lemmas.Nat.{mul-le}
use Rattle.std.proofs.lemmas.Nat.Bits.{same_from_bits_below}
use Rattle.cam_rows.proofs.SetBits.{set_in_and, set_in_shr, set_is_one, whole_run}
use Rattle.cam_tiles.specs.Pbm.{byte_of, padded}
use Rattle.cam_tiles.specs.Tables.{Table, Tile, is_pixel_black, tile_in}
use Rattle.cam_tiles.specs.Tiles.{across, tile_of}
use Rattle.cam_tiles.proofs.MaskWords.{bit_told}
use Rattle.cam_tiles.proofs.PbmLemmas.{bit_at-byte_of, byte_of-lt}
use Rattle.cam_tiles.proofs.TableFacts.{black_in_tile, tile_found}
use Rattle.cam_tiles.proofs.TablePixels.{bit_in}

-- ---- the bytes of a word

-- a byte is known by its bits, from the highest down
byte_told : (black : ℕ → Bool) (byte : ℕ) → byte < 2 ^ 8
    → ((i : ℕ) → i < 8 → IsBitSet byte (7 - i) ↔ IsTrue (black i)) → byte ≡ byte_of black
byte_told black byte fits told =
    same_from_bits_below 8 byte (byte_of black) fits (byte_of-lt black) (λ i low.
    let turned : 7 - (7 - i) ≡ i = omega arith in
    let left : 7 - i < 8 = omega arith in
    subst (λ at. bit_at byte at ≡ bit_at (byte_of black) at) turned
    (bit_told (black (7 - i)) byte (7 - (7 - i)) (told (7 - i) left) ∙ sym (bit_at-byte_of black (7 - i) left)))

-- the bytes of a word whose bits are pixels from a place on
pub bytes_told : (black : ℕ → Bool) (place from word : ℕ) (bytes : List ℕ) → place ≡ 8 * from
    → ((i : ℕ) → i < 64 → IsBitSet (slice_index bytes (i / 8)) (7 - i % 8) ↔ IsBitSet word i)
    → ((i : ℕ) → i < 64 → IsBitSet word i ↔ IsTrue (black (place + i)))
    → (j : ℕ) → j < 8 → slice_index bytes j < 2 ^ 8
    → slice_index bytes j ≡ byte_of (λ i. black (8 * (from + j) + i))
bytes_told black place from word bytes whole turned told j near fits =
    byte_told (λ i. black (8 * (from + j) + i)) (slice_index bytes j) fits (λ i low.
    let of_byte : (8 * j + i) / 8 ≡ j = omega arith in
    let at_bit : (8 * j + i) % 8 ≡ i = omega arith in
    let of_row : place + (8 * j + i) ≡ 8 * (from + j) + i = omega arith in
    let bit : IsBitSet (slice_index bytes j) (7 - i) ↔ IsBitSet word (8 * j + i) =
    subst (λ byte. IsBitSet (slice_index bytes byte) (7 - i) ↔ IsBitSet word (8 * j + i)) of_byte
    (subst (λ bit. IsBitSet (slice_index bytes ((8 * j + i) / 8)) (7 - bit) ↔ IsBitSet word (8 * j + i)) at_bit
    (turned (8 * j + i) (omega arith))) in
    let pixel : IsBitSet word (8 * j + i) ↔ IsTrue (black (8 * (from + j) + i)) =
    subst (λ at. IsBitSet word (8 * j + i) ↔ IsTrue (black at)) of_row (told (8 * j + i) (omega arith)) in
    ((λ h. pixel.0 (bit.0 h)), (λ h. bit.1 (pixel.1 h))))

-- ---- the words of tiles

-- so many bits from the lowest on
lowest_bits : (count i : ℕ) → count ≤ 64 → IsBitSet ((2 ^ 64 - 1) / 2 ^ (64 - count)) i ↔ (i < count)
lowest_bits count i few = grind (arith, set_in_shr, whole_run)

set_test : (n i : ℕ) → IsBitSet n i ↔ IsTrue (nat_eq (bit_at n i) 1)
set_test n i = ((λ h. eq-eqb _ 1 ((set_is_one n i).0 h)), (λ h. (set_is_one n i).1 (eqb-true _ 1 h)))

module _ (t : Table) (column row : ℕ) (below : row < t.window.height) where
  abbrev width : ℕ
  width = t.window.width

  abbrev place : ℕ → ℕ
  place i = 64 * column + i

  abbrev black : ℕ → Bool
  black k = is_pixel_black t k row

  abbrev shown : ℕ → Bool
  shown i = padded black width (place i)

  -- all of them stand in one tile
  pub tile_there : (wide : ℕ) (tile : Tile) → wide ≡ across t.window
      → slice_index_or t.tiles (row / 64 * wide + column) None ≡ tile
      → (i : ℕ) → i < 64 → tile_in t (tile_of t.window (place i) row) ≡ tile
  tile_there wide tile is_wide found i low = grind (arith, tile_found)

  shown_inside : (tile : Tile) (i : ℕ) → place i < width → tile_in t (tile_of t.window (place i) row) ≡ tile
      → shown i ≡ unwrap_or (option_map (bit_in (place i) row) tile) false
  shown_inside tile i within there = grind (arith, lt-ltb, black_in_tile)

  clear_outside : (i : ℕ) → width ≤ place i → shown i ≡ false
  clear_outside i past = ap (λ b. b && black (place i)) (le-ltb (place i) width past)

  -- the word of a clean tile, its bits past the window cleared
  pub clean_word : (rows : List ℕ) (inside i : ℕ) → inside ≡ min (width - 64 * column) 64 → i < 64
      → tile_in t (tile_of t.window (place i) row) ≡ Some rows
      → IsBitSet (bit_and (slice_index rows (row % 64)) ((2 ^ 64 - 1) / 2 ^ (64 - inside))) i ↔ IsTrue (shown i)
  clean_word rows inside i count low there = grind (arith, set_in_and, lowest_bits, cases_lt, shown_inside, set_test, false≢true)

  -- nothing is known to be black in a dirty one
  pub dirty_word : (i : ℕ) → i < 64 → tile_in t (tile_of t.window (place i) row) ≡ None
      → IsBitSet 0 i ↔ IsTrue (shown i)
  dirty_word i low there = grind (arith, cases_lt, shown_inside, clear_outside, false≢true)

-- the number of a tile fits
pub few_before : (r a c : ℕ) → r < 512 → a ≤ 512 → c < a → r * a + c < 2 ^ 32
few_before r a c rows columns within = grind (arith, mul-le)
