-- Clean tiles show the image: from the beginning on, where tiles are drawn, and where boxes touch what changes.
use Rattle.std.proofs.Common.{rules, ◌≡◌, ℕ, zero, suc, ◌+◌, ◌/◌, ◌%◌, ◌<◌, Bool, true, false, cond, ◌&&◌, List, [], ◌∷◌, nat_eq}
use Rattle.std.proofs.Common.{nat_lt, All, Some, None, option_map, sym, ap, ap₂, subst, ◌∙◌, inl, inr, arith}
use Rattle.std.specs.Int.{bit_at}
use Rattle.std.specs.List.{list_any, range_with_len}
use Rattle.std.proofs.lemmas.Bool.{and_from, and_parts, or_parts, ltb-true, lt-ltb, both_ways}
use Rattle.std.proofs.lemmas.List.Elements.{All-cons, All-nil}
use Rattle.std.proofs.lemmas.List.FromFn.{get_or-map-range_with_len}
use Rattle.std.proofs.lemmas.Nat.{div-mul-add, mod-mul-add, mul-add-lt}
use Rattle.cam_units.specs.Boxes.{Holds}
use Rattle.cam_units.specs.declared.bounds.Bounds.{Bounds}
use Rattle.cam_units.specs.declared.point.Spot.{Spot}
use Rattle.cam_tiles.specs.declared.grid.Grid.{Grid}
use Rattle.cam_tiles.specs.declared.window.Window.{Window}
use Rattle.cam_tiles.specs.Picture.{centre_of, pixels_of, plot_of}
use Rattle.cam_tiles.specs.Tables.{IsTable, Table, Tile, blank, dirty_count, is_pixel_black, pbm_of, pixel_of, redrawn, tile_in}
use Rattle.cam_tiles.specs.TileLaws.{AgreeOutside, IsPictured, PictureLaw}
use Rattle.cam_tiles.specs.Tiles.{across, centre_in, columns, tiles_down, grid_of, is_black_in, first_column, rows}
use Rattle.cam_tiles.specs.Tiles.{tile_of, tile_rows, tiles_of, top, word}
use Rattle.cam_tiles.specs.Touched.{holds, box_touched, touched_by, touches}
use Rattle.cam_tiles.proofs.GridLemmas.{centre_in_grid}
use Rattle.cam_tiles.proofs.SameFiles.{same_map, same_pbm, same_under}
use Rattle.cam_tiles.proofs.TableFacts.{black_in_tile, clean_tile, no_tile_in_blank, tile_at_drawn, touched_window, untouched}
use Rattle.cam_tiles.proofs.WindowLemmas.{from_le}
use Rattle.cam_tiles.proofs.TablePixels.{bit_in}
use Rattle.cam_tiles.proofs.WordLemmas.{same_word, word_bit}

pictured_blank : (image : Spot → Bool) (w : Window) → IsPictured image (blank w)
pictured_blank image w k lines is = absurd (cc (no_tile_in_blank w k))

pictured_redrawn : (image : Spot → Bool) (n : ℕ) (t : Table) → IsPictured image t → IsPictured image (redrawn image n t)
pictured_redrawn image n t shown k lines is =
    let first : 0 + k ≡ k = omega arith in
    elim (tile_at_drawn (λ k. tile_rows image (grid_of t.window k)) 0 n t.tiles k lines is) [
      | inl before ↦ shown k lines before
      | inr drawn ↦ drawn ∙ ap (λ k. tile_rows image (grid_of t.window k)) first
    ]

-- a test that fails on a range fails at each number of it
none_in_range : (test : ℕ → Bool) (a n i : ℕ) → list_any test (range_with_len a n) ≡ false → i < n
    → test (a + i) ≡ false
none_in_range test a zero i none within = absurd (omega arith)
none_in_range test a (suc n) zero none within = grind (arith, or_parts)
none_in_range test a (suc n) (suc i) none within =
    let next : a + suc i ≡ a + 1 + i = omega arith in
    ap test next ∙ none_in_range test (a + 1) n i (or_parts _ _ none).1 (omega arith)

-- no pixel of a tile that a box does not touch has its centre there
centre_outside : (w : Window) (box : Bounds) (k column row : ℕ) → touches w box k ≡ false
    → column < columns w k → row < rows w k → holds box (centre_of w (first_column w k + column) (top w k + row)) ≡ false
unfolding touches
centre_outside w box k column row none within below =
    none_in_range (λ c. holds box (centre_of w c (top w k + row))) (first_column w k) (columns w k) column
    (none_in_range (λ r. list_any (λ c. holds box (centre_of w c r)) (range_with_len (first_column w k) (columns w k)))
    (top w k) (rows w k) row none below)
    within

-- a place of the box passes its test
held : (box : Bounds) (s : Spot) → Holds box s → holds box s ≡ true
held box s inside = grind (arith, and_from, from_le)

-- images that are the same at the centres of a grid have one tile there
same_tile : (image other : Spot → Bool) (g : Grid)
    → ((column row : ℕ) → column < g.cols → row < g.rows
    → image (centre_in g column row) ≡ other (centre_in g column row))
    → tile_rows image g ≡ tile_rows other g
unfolding tile_rows
same_tile image other g same =
    same_map (λ row. word (is_black_in image g row) 64) (λ row. word (is_black_in other g row) 64) 0 64
    (λ row. same_word (is_black_in image g row) (is_black_in other g row) 64
    (λ column low. same_under (nat_lt row g.rows) _ _
    (λ below. same_under (nat_lt column g.cols) _ _
    (λ within. same column row (ltb-true _ _ within) (ltb-true _ _ below)))))

-- a tile that is clean after boxes is as before, and none of them touches it
untouched_by : (boxes : List Bounds) (t : Table) (k : ℕ) (lines : List ℕ) → tile_in (touched_by boxes t) k ≡ Some lines
    → All (λ box. touches t.window box k ≡ false) boxes × (tile_in t k ≡ Some lines)
untouched_by [] t k lines is = (All-nil (λ box. touches t.window box k ≡ false), is)
untouched_by (box ∷ boxes) t k lines is =
    let later = untouched_by boxes (box_touched box t) k lines is in
    let first = untouched box t k lines later.1 in
    (All-cons (λ box. touches t.window box k ≡ false) box boxes first.0 later.0, first.1)

pictured_touched : (image other : Spot → Bool) (boxes : List Bounds) (t : Table) → AgreeOutside boxes image other
    → IsPictured image t → IsPictured other (touched_by boxes t)
pictured_touched image other boxes t agree shown k lines is =
    let w = t.window in
    let kept = untouched_by boxes t k lines is in
    shown k lines kept.1
    ∙ same_tile image other (grid_of w k) (λ column row within below.
    let place = centre_in_grid w k column row (omega arith) in
    agree (centre_in (grid_of w k) column row) (λ i box inside hit.
    both_ways _ (centre_outside w _ k column row (kept.0 i box inside) within below)
    (held _ _ (subst (Holds _) place hit))))
    ∙ ap (λ v. tile_rows other (grid_of v k)) (sym (touched_window boxes t))

-- the place of a pixel in its tile
left_of_tile : (w : Window) (column row : ℕ) → column < w.width → first_column w (tile_of w column row) + column % 64 ≡ column
left_of_tile w column row within = grind (arith, mod-mul-add)

top_of_tile : (w : Window) (column row : ℕ) → column < w.width → top w (tile_of w column row) + row % 64 ≡ row
top_of_tile w column row within = grind (arith, div-mul-add)

-- a bit of a tile that shows the image
bit_shown : (image : Spot → Bool) (w : Window) (column row : ℕ) → column < w.width → row < w.height
    → bit_in column row (tile_rows image (grid_of w (tile_of w column row))) ≡ image (centre_of w column row)
unfolding tile_rows
bit_shown image w column row within below =
    let k : ℕ = tile_of w column row in
    let g : Grid = grid_of w k in
    let across_at : first_column w k + column % 64 ≡ column = left_of_tile w column row within in
    let down_at : top w k + row % 64 ≡ row = top_of_tile w column row within in
    let in_rows : row % 64 < rows w k = omega arith in
    let in_columns : column % 64 < columns w k = omega arith in
    ap (λ line. nat_eq (bit_at line (column % 64)) 1)
    (get_or-map-range_with_len (λ row. word (is_black_in image g row) 64) 0 64 (row % 64) (row % 64) 0
    (omega arith) (omega arith))
    ∙ word_bit (is_black_in image g (row % 64)) 64 (column % 64) (omega arith)
    ∙ ap (λ b. b && (nat_lt (column % 64) g.cols && image (centre_in g (column % 64) (row % 64))))
    (lt-ltb _ _ in_rows)
    ∙ ap (λ b. b && image (centre_in g (column % 64) (row % 64))) (lt-ltb _ _ in_columns)
    ∙ ap image (centre_in_grid w k (column % 64) (row % 64) (omega arith)
    ∙ ap₂ (centre_of w) across_at down_at)

-- what is known of a pixel was read in a clean tile
record IsRead (b : Bool) (tile : Tile) (test : List ℕ → Bool) (black : Bool) : Type 0 where
  inside : b ≡ true
  lines : List ℕ
  clean : tile ≡ Some lines
  tested : test lines ≡ black

known : (b : Bool) (tile : Tile) (test : List ℕ → Bool) (black : Bool)
    → cond b (option_map test tile) None ≡ Some black → IsRead b tile test black
known b tile test black is = grind arith

-- a pixel that is known is black where the image is
pixel_shown : (image : Spot → Bool) (t : Table) (column row : ℕ) (black : Bool) → IsTable t → IsPictured image t
    → pixel_of t column row ≡ Some black → black ≡ image (centre_of t.window column row)
pixel_shown image t column row black table shown is = grind (arith, bit_in, known, and_parts, bit_shown, ltb-true)

-- and each is known where all tiles are clean
black_shown : (image : Spot → Bool) (t : Table) (column row : ℕ) → IsTable t → IsPictured image t → dirty_count t ≡ 0
    → column < t.window.width → row < t.window.height
    → is_pixel_black t column row ≡ image (centre_of t.window column row)
black_shown image t column row table shown clean within below =
    let w = t.window in
    let k : ℕ = tile_of w column row in
    let there : k < tiles_of w = mul-add-lt (row / 64) (across w) (column / 64) (tiles_down w) (omega arith) (omega arith) in
    let tile = clean_tile t.tiles k clean (omega (arith, there, table.full)) in
    black_in_tile t (Some tile.0) column row within below tile.1
    ∙ ap (bit_in column row) (shown k tile.0 tile.1) ∙ bit_shown image w column row within below

-- the file of clean tiles is the plot
clean_file : (image : Spot → Bool) (t : Table) → IsTable t → IsPictured image t → dirty_count t ≡ 0
    → pbm_of t ≡ plot_of t.window image
unfolding pbm_of plot_of
clean_file image t table shown clean =
    same_pbm (is_pixel_black t) (pixels_of t.window image) t.window.width t.window.height
    (λ column row within below. black_shown image t column row table shown clean within below)

pub picture_law : PictureLaw
picture_law = search (rules, pictured_blank, pictured_redrawn, pictured_touched, pixel_shown, clean_file)
