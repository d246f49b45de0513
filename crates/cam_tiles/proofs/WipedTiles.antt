-- Wiping: tiles run by run, and those of a box.
use Rattle.std.proofs.Common.{◌≡◌, ℕ, zero, suc, ◌+◌, ◌-◌, ◌*◌, ◌/◌, ◌%◌, ◌<◌, ◌≤◌, Bool, true, false, ◌&&◌, ◌||◌, nat_le, nat_lt}
use Rattle.std.proofs.Common.{cond, List, [], ◌∷◌, length, length-take, take, get_or, inl, inr, refl, sym, ap, ◌∙◌, arith}
use Rattle.std.specs.List.{list_any, range_with_len}
use Rattle.std.specs.Prelude.{None}
use Rattle.std.proofs.Math.Nat.{mul-le-mul_right, mod-lt}
use Rattle.std.proofs.lemmas.Bool.{cases_order, or_from}
use Rattle.std.proofs.lemmas.Bool.Decides.{nat_tests}
use Rattle.std.proofs.lemmas.List.{ext_get_or, get_or-take}
use Rattle.std.proofs.lemmas.Nat.{div_below}
use Rattle.cam_units.specs.declared.bounds.Bounds.TheVariants.{Empty, Closed}
use Rattle.cam_units.specs.declared.point.Spot.{Spot}
use Rattle.cam_tiles.specs.declared.span.Span.{Span}
use Rattle.cam_tiles.specs.declared.window.Window.{Window}
use Rattle.cam_tiles.specs.Picture.{accepts, middle}
use Rattle.cam_tiles.specs.Machinery.Spans.{has_pixel, is_between, is_in_span}
use Rattle.cam_tiles.specs.Tables.{IsTable, Table, Tile}
use Rattle.cam_tiles.specs.Tiles.{across, columns, tiles_down, first_column, rows, tiles_of, top}
use Rattle.cam_tiles.specs.Touched.{box_touched, touches, wiped_from}
use Rattle.cam_tiles.proofs.DrawnTiles.{clean_before, dirty}
use Rattle.cam_tiles.proofs.TileCounts.{some_across}

-- whether a tile is in one of the rows from start on, and before end, in the columns of a span
abbrev is_in_rows : Span → ℕ → ℕ → ℕ → ℕ → Bool
is_in_rows columns start end column row = is_in_span columns column && (nat_le start row && nat_lt row end)

-- and in the run of the tiles of one row
abbrev is_in_run : Span → ℕ → ℕ → Bool
is_in_run columns begin k = nat_le (begin + columns.first) k && nat_lt k (begin + columns.end)

row_more : (columns : Span) (start row wide r m : ℕ) (tile : Tile) → m < wide → columns.end ≤ wide → start ≤ row
    → cond (is_in_run columns (wide * row) (wide * r + m)) None (cond (is_in_rows columns start row m r) None tile)
    ≡ cond (is_in_rows columns start (row + 1) m r) None tile
row_more columns start row wide r m tile inside fits begun = elim (cases_order r row) [
  | inl same ↦ rw same (grind (arith, nat_tests))
  | inr (inl above) ↦ (let higher : suc r * wide ≤ row * wide = mul-le-mul_right wide above in grind (arith, nat_tests))
  | inr (inr below) ↦ (let lower : suc row * wide ≤ r * wide = mul-le-mul_right wide below in grind (arith, nat_tests))
]

tile_numbered : (k wide : ℕ) → 0 < wide → wide * (k / wide) + k % wide ≡ k
tile_numbered k wide some = omega arith

-- a tile after the run of the next row
pub next_row_wiped : (columns : Span) (start row wide k : ℕ) (wiped before tile : Tile) → 0 < wide → columns.end ≤ wide
    → start ≤ row → wiped ≡ cond (is_in_run columns (wide * row) k) None before
    → before ≡ cond (is_in_rows columns start row (k % wide) (k / wide)) None tile
    → wiped ≡ cond (is_in_rows columns start (row + 1) (k % wide) (k / wide)) None tile
next_row_wiped columns start row wide k wiped before tile some fits begun now so_far =
    grind (arith, tile_numbered, row_more, mod-lt)

-- the tiles that a test leaves
still_none : (b : Bool) → ◌≡◌ {A = Tile} None (cond b None None)
still_none b = grind arith

pub get_or-wiped_from : (is_wiped : ℕ → Bool) (first : ℕ) (tiles : List Tile) (k : ℕ)
    → get_or (wiped_from is_wiped first tiles) k None ≡ cond (is_wiped (first + k)) None (get_or tiles k None)
get_or-wiped_from is_wiped first [] k = still_none (is_wiped (first + k))
get_or-wiped_from is_wiped first (tile ∷ tiles) zero = grind arith
get_or-wiped_from is_wiped first (tile ∷ tiles) (suc k) =
    let same : first + 1 + k ≡ first + suc k = omega arith in
    get_or-wiped_from is_wiped (first + 1) tiles k ∙ ap (λ n. cond (is_wiped n) None (get_or tiles k None)) same

length-wiped_from : (is_wiped : ℕ → Bool) (first : ℕ) (tiles : List Tile)
    → length (wiped_from is_wiped first tiles) ≡ length tiles
length-wiped_from is_wiped first [] = refl
length-wiped_from is_wiped first (tile ∷ tiles) = ap suc (length-wiped_from is_wiped (first + 1) tiles)

-- the box with no place touches none
none_passes : (p : ℕ → Bool) → ((n : ℕ) → p n ≡ false) → (numbers : List ℕ) → list_any p numbers ≡ false
none_passes p none [] = refl
none_passes p none (n ∷ numbers) = or_from (p n) (list_any p numbers) (none n) (none_passes p none numbers)

touches_none : (w : Window) (k : ℕ) → touches w Empty k ≡ false
unfolding touches
touches_none w k = grind (arith, none_passes)

none_wiped : (is_wiped : ℕ → Bool) → ((k : ℕ) → is_wiped k ≡ false) → (first : ℕ) (tiles : List Tile)
    → wiped_from is_wiped first tiles ≡ tiles
none_wiped is_wiped none first [] = refl
none_wiped is_wiped none first (tile ∷ tiles) = grind (arith, none_wiped is_wiped none (first + 1) tiles)

pub touched_empty : (t : Table) → box_touched Empty t ≡ t
touched_empty t = grind (arith, none_wiped, touches_none)

-- pixels that pass by their column and by their row
spread : (a b c : Bool) → ((a && b) || (c && b)) ≡ ((a || c) && b)
spread a b c = grind arith

any_column : (p : ℕ → Bool) (b : Bool) (columns : List ℕ) → list_any (λ n. p n && b) columns ≡ (list_any p columns && b)
any_column p b [] = refl
any_column p b (n ∷ columns) = ap (λ r. (p n && b) || r) (any_column p b columns) ∙ spread (p n) b (list_any p columns)

neither : (a : Bool) → false ≡ (a && false)
neither a = grind arith

gather : (a b c : Bool) → ((a && b) || (a && c)) ≡ (a && (b || c))
gather a b c = grind arith

any_column_and_row : (p q : ℕ → Bool) (columns rows : List ℕ)
    → list_any (λ row. list_any (λ column. p column && q row) columns) rows ≡ (list_any p columns && list_any q rows)
any_column_and_row p q columns [] = neither (list_any p columns)
any_column_and_row p q columns (row ∷ rows) =
    ap (λ b. b || list_any (λ row. list_any (λ column. p column && q row) columns) rows) (any_column p (q row) columns)
    ∙ ap (λ b. (list_any p columns && q row) || b) (any_column_and_row p q columns rows)
    ∙ gather (list_any p columns) (q row) (list_any q rows)

-- spans that stand for a box: columns of tiles, and rows of them
abbrev pub AreColumns : Window → Spot → Spot → Span → Type 0
AreColumns w low high s = (tile : ℕ) → tile < across w
    → is_in_span s tile ≡ has_pixel (λ column. is_between low.x high.x (middle w.x w.pitch column)) w.width tile

abbrev pub AreRows : Window → Spot → Spot → Span → Type 0
AreRows w low high s = (tile : ℕ) → tile < tiles_down w → is_in_span s tile
    ≡ has_pixel (λ row. is_between low.y high.y (middle w.y w.pitch (w.height - 1 - row))) w.height tile

touches_spans : (w : Window) (low high : Spot) (in_columns in_rows : Span) (k : ℕ) → accepts w ≡ true → k < tiles_of w
    → AreColumns w low high in_columns → AreRows w low high in_rows
    → touches w (Closed low high) k ≡ (is_in_span in_columns (k % across w) && is_in_span in_rows (k / across w))
unfolding touches has_pixel
touches_spans w low high in_columns in_rows k sound within by_column by_row =
    let some = some_across w sound in
    let column : k % across w < across w = mod-lt k some in
    let row : k / across w < tiles_down w = div_below k (across w) (tiles_down w) some (omega (arith, within)) in
    any_column_and_row (λ column. is_between low.x high.x (middle w.x w.pitch column))
    (λ row. is_between low.y high.y (middle w.y w.pitch (w.height - 1 - row)))
    (range_with_len (first_column w k) (columns w k)) (range_with_len (top w k) (rows w k))
    ∙ ap (λ b. b && list_any (λ row. is_between low.y high.y (middle w.y w.pitch (w.height - 1 - row)))
    (range_with_len (top w k) (rows w k))) (sym (by_column (k % across w) column))
    ∙ ap (λ b. is_in_span in_columns (k % across w) && b) (sym (by_row (k / across w) row))

-- the table whose tiles in those columns and rows are wiped
pub touched_spans : (t : Table) (low high : Spot) (in_columns in_rows : Span) (wide : ℕ) (wiped : List Tile)
    → IsTable t → AreColumns t.window low high in_columns → AreRows t.window low high in_rows → wide ≡ across t.window
    → length wiped ≡ length t.tiles
    → ((k : ℕ) → get_or wiped k None
    ≡ cond (is_in_span in_columns (k % wide) && is_in_span in_rows (k / wide)) None (get_or t.tiles k None))
    → ◌≡◌ {A = Table} (record { window = t.window; tiles = wiped }) (box_touched (Closed low high) t)
touched_spans t low high in_columns in_rows wide wiped sound by_column by_row same full each =
    let w = t.window in
    let here : ℕ → ℕ → Bool = λ n k. is_in_span in_columns (k % n) && is_in_span in_rows (k / n) in
    let after : List Tile = wiped_from (touches w (Closed low high)) 0 t.tiles in
    ap (λ tiles. record { window = w; tiles = tiles })
    (ext_get_or None wiped after (full ∙ sym (length-wiped_from (touches w (Closed low high)) 0 t.tiles))
    (λ k within.
    let this : 0 + k ≡ k = omega arith in
    let inside : k < tiles_of w = omega (arith, within, full, sound.full) in
    each k
    ∙ ap (λ n. cond (here n k) None (get_or t.tiles k None)) same
    ∙ ap (λ b. cond b None (get_or t.tiles k None))
    (sym (touches_spans w low high in_columns in_rows k sound.accepted inside by_column by_row))
    ∙ ap (λ n. cond (touches w (Closed low high) n) None (get_or t.tiles k None)) (sym this)
    ∙ sym (get_or-wiped_from (touches w (Closed low high)) 0 t.tiles k)))

-- tiles that were clean still are where they stay
pub still_clean : (old new : List Tile) (n m : ℕ) → length new ≡ length old → m ≤ n → dirty (take n old) ≡ 0
    → ((k : ℕ) → k < m → get_or new k None ≡ get_or old k None) → dirty (take m new) ≡ 0
still_clean old new n m size few clean same =
    let kept : take m new ≡ take m old =
    ext_get_or None (take m new) (take m old) (omega (arith, length-take m new, length-take m old, size))
    (λ k within.
    let under : k < m = omega (arith, within, length-take m new) in
    get_or-take m new k None under ∙ same k under ∙ sym (get_or-take m old k None under)) in
    ap dirty kept ∙ clean_before old n m few clean
