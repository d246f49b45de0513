-- Swaths: the tiles that they turn to, and what is drawn of them.
use Rattle.std.proofs.Common.{◌≡◌, ◌↔◌, ℕ, nat_eq, ◌+◌, ◌*◌, ◌/◌, ◌^◌, ◌<◌, ◌≤◌, Bool, true, false, ◌&&◌, nat_lt, cond}
use Rattle.std.proofs.Common.{List, [], length, get_or, None, Some, is_none, sym, ap, subst, ◌∙◌, inl, inr, arith}
use Rattle.std.specs.Int.{bit_at}
use Rattle.std.specs.Option.{unwrap_or}
use Rattle.std.proofs.Math.Bool.{and-false}
use Rattle.std.proofs.lemmas.Bool.{cases_lt, le-ltb, lt-ltb}
use Rattle.std.proofs.lemmas.Grind.{same_number_lists}
use Rattle.std.proofs.lemmas.List.{get_or_default}
use Rattle.std.proofs.lemmas.Nat.Bits.{bit_at-lt, same_from_bits_below}
use Rattle.cam_units.specs.Board.{IsPlace}
use Rattle.cam_units.specs.declared.point.Spot.{Spot}
use Rattle.cam_tiles.specs.Machinery.Marks.{is_marked, is_set}
use Rattle.cam_tiles.specs.declared.grid.Grid.{Grid}
use Rattle.cam_tiles.specs.declared.window.Window.{Window}
use Rattle.cam_tiles.specs.Machinery.Inks.{AreOpen, Inked, ink_at, is_open}
use Rattle.cam_tiles.specs.Machinery.Masks.{IsIn}
use Rattle.cam_tiles.specs.Machinery.Runs.{IsWideGrid}
use Rattle.cam_tiles.specs.Machinery.Swaths.{IsInSwath, IsRowOfTiles, Swathed, columns_of, ink_in, place_in}
use Rattle.cam_tiles.specs.Pbm.{bit_of}
use Rattle.cam_tiles.specs.Picture.{accepts}
use Rattle.cam_tiles.specs.Tables.{Tile}
use Rattle.cam_tiles.specs.Tiles.{centre_in, grid_of, is_black_in, first_column, tile_rows, top, word}
use Rattle.cam_tiles.proofs.GridLemmas.{centre_in_grid, on_board, left_within}
use Rattle.cam_tiles.proofs.SwathInks.{IsClearPast}
use Rattle.cam_tiles.proofs.TileRowLemmas.{clear_past, get_or-tile_rows, length-tile_rows, shown_within}
use Rattle.cam_tiles.proofs.WindowLemmas.{accepted}
use Rattle.cam_tiles.proofs.WordLemmas.{bit_at-word, word-lt}

-- ---- the tiles that a swath turns to

-- the rows of the first of them go on to the right
pub row_is_wide : (w : Window) (first columns : ℕ) (tiles : List Tile) → accepts w ≡ true → IsRowOfTiles w first tiles
    → columns ≡ columns_of w first (length tiles) → IsWideGrid (grid_of w first) columns
row_is_wide w first columns tiles h row are =
    let limits = accepted w h in
    let from = left_within w first limits.width.0 in
    let grid = on_board w first h (omega (arith, row.within, row.some)) in
    record {
      grid = grid;
      count = (omega (arith, are, from, row.some), omega (arith, are, limits.width));
      centres = λ column k near below. subst IsPlace (sym (centre_in_grid w first column k (omega (arith, below))))
          (limits.centres (first_column w first + column) (top w first + k) (omega (arith, near, are)) (omega (arith, below)));
    }

-- they are as many as the columns take up
pub tiles_taken_up : (w : Window) (first columns : ℕ) (tiles : List Tile) → accepts w ≡ true → IsRowOfTiles w first tiles
    → columns ≡ columns_of w first (length tiles) → length tiles ≡ (columns + 63) / 64
tiles_taken_up w first columns tiles h row are =
    let limits = accepted w h in
    let from = left_within w first limits.width.0 in
    omega (arith, row.fits, row.some, are, from)

module _ (tiles : List Tile) (columns rows : ℕ) (k : Inked) (now : AreOpen tiles columns rows k) where
  -- the dirty ones are not decided
  pub dirty_open : (row column : ℕ) → row < rows → column < columns → rows ≤ 64 → columns ≤ 64 * length tiles
      → ink_at k row column ≡ cond (is_none (get_or tiles (column / 64) None)) None (Some false)
  dirty_open row column below near low wide =
      let inside : column < 64 * k.tiles = omega (arith, now.tiles) in
      let here : is_open tiles columns rows row column ≡ is_none (get_or tiles (column / 64) None) =
      ap (λ b. b && (nat_lt column columns && is_none (get_or tiles (column / 64) (Some [])))) (lt-ltb row rows below)
      ∙ ap (λ b. b && is_none (get_or tiles (column / 64) (Some []))) (lt-ltb column columns near)
      ∙ ap is_none (get_or_default tiles (column / 64) (Some []) None (omega arith)) in
      now.each row column (omega arith) inside ∙ ap (λ b. cond b None (Some false)) here

  -- and what is past the columns and rows is clear
  pub clear_past_open : (g : Grid) → g.rows ≡ rows → IsClearPast g columns k
  clear_past_open g is row column low within out =
      let rest : Bool = is_none (get_or tiles (column / 64) (Some [])) in
      let shut : is_open tiles columns rows row column ≡ false = elim (cases_lt row rows) [
        | inl below ↦ elim (cases_lt column columns) [
          | inl near ↦ absurd (out near (omega (arith, is)))
          | inr past ↦ ap (λ b. nat_lt row rows && (b && rest)) (le-ltb column columns past) ∙ and-false (nat_lt row rows)
        ]
        | inr past ↦ ap (λ b. b && (nat_lt column columns && rest)) (le-ltb row rows past)
      ] in
      now.each row column low within ∙ ap (λ b. cond b None (Some false)) shut

-- ---- the tiles that are drawn

bit_from : (n : ℕ) (b : Bool) → n < 2 → nat_eq n 1 ≡ b → n ≡ bit_of b
bit_from n b small is = grind arith

-- what is decided as dark
dark_of : (decided dark : Bool) → (decided && dark) ≡ unwrap_or (cond decided (Some dark) None) false
dark_of decided dark = grind arith

module _ (image : Spot → Bool) (s : Swathed) (tile : ℕ) (g : Grid) (tall : s.grid.rows ≤ 64)
    (clear : IsClearPast s.grid s.columns s.inks) (within : tile < s.inks.tiles)
    (pixels : (column row : ℕ) → column < 64 → IsIn g column row ↔ IsInSwath s (64 * tile + column) row)
    (places : (column row : ℕ) → centre_in g column row ≡ place_in s (64 * tile + column) row)
    (shown : (column row : ℕ) → IsInSwath s column row → column / 64 ≡ tile
    → unwrap_or (ink_in s column row) false ≡ image (place_in s column row)) where
  -- the ink of a pixel of a dirty tile is what the image has there
  black_there : (row i : ℕ) → row < 64 → i < 64
      → unwrap_or (ink_in s (64 * tile + i) row) false ≡ is_black_in image g row i
  black_there row i low near =
      let column : ℕ = 64 * tile + i in
      let inside : column < 64 * s.inks.tiles = omega (arith, within) in
      let off : (IsIn g i row → ⊥) → unwrap_or (ink_in s column row) false ≡ false = λ out.
      ap (λ o. unwrap_or o false) (clear row column low inside (λ c r. out ((pixels i row near).1 (c, r)))) in
      elim (cases_lt row g.rows) [
        | inl below ↦ elim (cases_lt i g.cols) [
          | inl here ↦ shown column row ((pixels i row near).0 (here, below)) (omega arith)
              ∙ ap image (sym (places i row)) ∙ shown_within image g row i below here
          | inr past ↦ off (λ there. omega (arith, there.0)) ∙ sym (clear_past image g row i past)
        ]
        | inr past ↦ off (λ there. omega (arith, there.1))
            ∙ sym (ap (λ b. b && (nat_lt i g.cols && image (centre_in g i row))) (le-ltb row g.rows past))
      ]

  -- so its rows are those of the image
  pub rows_drawn : (rows : List ℕ) → length rows ≡ 64 → ((row : ℕ) → get_or rows row 0 < 2 ^ 64)
      → ((row i : ℕ) → row < 64 → i < 64 → is_set (get_or rows row 0) i
      ≡ (is_marked s.inks.decided row (64 * tile + i) && is_marked s.inks.dark row (64 * tile + i)))
      → rows ≡ tile_rows image g
  rows_drawn rows whole fit told =
      same_number_lists rows (tile_rows image g) (whole ∙ sym (length-tile_rows image g)) (λ row there.
      let low : row < 64 = omega (arith, whole) in
      same_from_bits_below 64 (get_or rows row 0) (word (is_black_in image g row) 64) (fit row)
      (word-lt (is_black_in image g row) 64) (λ i near.
      bit_from (bit_at (get_or rows row 0) i) (is_black_in image g row i) (bit_at-lt (get_or rows row 0) i)
      (told row i low near ∙ dark_of (is_marked s.inks.decided row (64 * tile + i)) (is_marked s.inks.dark row (64 * tile + i))
      ∙ black_there row i low near)
      ∙ sym (bit_at-word (is_black_in image g row) 64 i near))
      ∙ sym (get_or-tile_rows image g row low))
