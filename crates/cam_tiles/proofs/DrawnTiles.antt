-- Redraws: the dirty tiles of least number are drawn, and the others kept.
use Rattle.std.proofs.Common.{◌≡◌, ℕ, zero, suc, ◌+◌, ◌-◌, ◌<◌, ◌≤◌, min, Bool, nat_lt, if◌then◌else◌}
use Rattle.std.proofs.Common.{List, [], ◌∷◌, ◌++◌, length, take, drop, count_by, cond, slice_get, Some, None}
use Rattle.std.proofs.Common.{is_none, is_some, option_and_then, refl, sym, ap, ◌∙◌, arith}
use Rattle.std.proofs.lemmas.Bool.{cases_lt, le-ltb, lt-ltb}
use Rattle.std.proofs.lemmas.List.{take-take}
use Rattle.std.proofs.lemmas.List.Sums.{sum_by-cons, sum_by-take-le}
use Rattle.cam_units.specs.declared.point.Spot.{Spot}
use Rattle.cam_tiles.specs.Tables.{Table, Tile, all_drawn_from, drawn_from}
use Rattle.cam_tiles.specs.TileLaws.{RedrawLaw}
use Rattle.cam_tiles.specs.Tiles.{grid_of, tile_rows}

-- how many tiles are dirty
abbrev pub dirty : List Tile → ℕ
dirty tiles = count_by is_none tiles

pub dirty_after_clean : (rows : List ℕ) (tiles : List Tile) → dirty (Some rows ∷ tiles) ≡ dirty tiles
dirty_after_clean rows tiles = omega (arith, sum_by-cons (λ tile. cond (is_none tile) 1 0) (Some rows) tiles)

pub dirty_after_dirty : (tiles : List Tile) → dirty (None ∷ tiles) ≡ 1 + dirty tiles
dirty_after_dirty tiles = sum_by-cons (λ tile. cond (is_none tile) 1 0) None tiles

-- of tiles of which none is dirty, none of the first is
pub clean_first : (tiles : List Tile) (n : ℕ) → dirty tiles ≡ 0 → dirty (take n tiles) ≡ 0
clean_first tiles n clean = omega (arith, sum_by-take-le (λ tile. cond (is_none tile) 1 0) tiles n, clean)

pub clean_before : (tiles : List Tile) (n m : ℕ) → m ≤ n → dirty (take n tiles) ≡ 0 → dirty (take m tiles) ≡ 0
clean_before tiles n m few clean =
    sym (ap dirty (take-take m n tiles few)) ∙ clean_first (take n tiles) m clean

module _ (draw : ℕ → List ℕ) where
  -- where none is to be drawn, all are kept
  pub none_drawn : (k : ℕ) (tiles : List Tile) → drawn_from draw k 0 tiles ≡ tiles
  none_drawn k [] = refl
  none_drawn k (Some rows ∷ tiles) = ap (λ rest. Some rows ∷ rest) (none_drawn (k + 1) tiles)
  none_drawn k (None ∷ tiles) = refl

  pub length-drawn_from : (k n : ℕ) (tiles : List Tile) → length (drawn_from draw k n tiles) ≡ length tiles
  length-drawn_from k n [] = refl
  length-drawn_from k n (Some rows ∷ tiles) = ap suc (length-drawn_from (k + 1) n tiles)
  length-drawn_from k zero (None ∷ tiles) = refl
  length-drawn_from k (suc n) (None ∷ tiles) = ap suc (length-drawn_from (k + 1) n tiles)

  -- as many fewer are dirty as are drawn
  pub dirty-drawn_from : (k n : ℕ) (tiles : List Tile) → dirty (drawn_from draw k n tiles) ≡ dirty tiles - n
  dirty-drawn_from k n [] = omega arith
  dirty-drawn_from k n (Some rows ∷ tiles) =
      dirty_after_clean rows (drawn_from draw (k + 1) n tiles) ∙ dirty-drawn_from (k + 1) n tiles
      ∙ ap (λ m. m - n) (sym (dirty_after_clean rows tiles))
  dirty-drawn_from k zero (None ∷ tiles) = omega arith
  dirty-drawn_from k (suc n) (None ∷ tiles) =
      omega (
        arith,
        dirty_after_clean (draw k) (drawn_from draw (k + 1) n tiles),
        dirty-drawn_from (k + 1) n tiles,
        dirty_after_dirty tiles,
      )

  pub take-drawn_from : (k n end : ℕ) (tiles : List Tile)
      → take end (drawn_from draw k n tiles) ≡ drawn_from draw k n (take end tiles)
  take-drawn_from k n zero tiles = refl
  take-drawn_from k n (suc end) [] = refl
  take-drawn_from k n (suc end) (Some rows ∷ tiles) = ap (λ rest. Some rows ∷ rest) (take-drawn_from (k + 1) n end tiles)
  take-drawn_from k zero (suc end) (None ∷ tiles) = refl
  take-drawn_from k (suc n) (suc end) (None ∷ tiles) = grind (arith, take-drawn_from (k + 1) n end tiles)

  -- no more are drawn than are dirty
  pub drawn_as_many : (k n m : ℕ) (tiles : List Tile) → m ≡ min n (dirty tiles)
      → drawn_from draw k n tiles ≡ drawn_from draw k m tiles
  drawn_as_many k n m [] e = refl
  drawn_as_many k n m (Some rows ∷ tiles) e =
      grind (arith, dirty_after_clean, drawn_as_many (k + 1) n m tiles (omega (arith, dirty_after_clean rows tiles)))
  drawn_as_many k zero zero (None ∷ tiles) e = refl
  drawn_as_many k zero (suc m) (None ∷ tiles) e = absurd (omega arith)
  drawn_as_many k (suc n) zero (None ∷ tiles) e = absurd (omega (arith, dirty_after_dirty tiles))
  drawn_as_many k (suc n) (suc m) (None ∷ tiles) e =
      grind (arith, dirty_after_dirty, drawn_as_many (k + 1) n m tiles (omega (arith, dirty_after_dirty tiles)))

  -- up to behind the last of so many dirty tiles, all are drawn
  pub drawn_to : (k n end : ℕ) (tiles : List Tile) → dirty (take end tiles) ≡ n
      → drawn_from draw k n tiles ≡ all_drawn_from draw k (take end tiles) ++ drop end tiles
  drawn_to k n zero tiles e = ap (λ m. drawn_from draw k m tiles) (sym e) ∙ none_drawn k tiles
  drawn_to k n (suc end) [] e = refl
  drawn_to k n (suc end) (Some rows ∷ tiles) e =
      grind (arith, dirty_after_clean, drawn_to (k + 1) n end tiles (omega (arith, dirty_after_clean rows (take end tiles), e)))
  drawn_to k zero (suc end) (None ∷ tiles) e = absurd (omega (arith, dirty_after_dirty (take end tiles), e))
  drawn_to k (suc n) (suc end) (None ∷ tiles) e =
      grind (arith, dirty_after_dirty, drawn_to (k + 1) n end tiles (omega (arith, dirty_after_dirty (take end tiles), e)))

-- what is kept of a tile in a list
abbrev at : List Tile → ℕ → Tile
at tiles k = option_and_then (λ tile. tile) (slice_get tiles k)

-- a dirty tile is drawn where it is one of the first
abbrev drawn_where : Bool → List ℕ → Tile → Tile
drawn_where is_first rows tile = if is_some tile then tile else (if is_first then Some rows else None)

before_one_more : (m n more : ℕ) → more ≡ 1 + m → nat_lt m n ≡ nat_lt more (suc n)
before_one_more m n more e = grind (arith, cases_lt, lt-ltb, le-ltb)

module _ (draw : ℕ → List ℕ) (rows : List ℕ) where
  tile-drawn_from : (a n : ℕ) (tiles : List Tile) (k : ℕ) → k < length tiles → rows ≡ draw (a + k)
      → at (drawn_from draw a n tiles) k ≡ drawn_where (nat_lt (dirty (take k tiles)) n) rows (at tiles k)
  tile-drawn_from a n [] k within e = absurd (omega arith)
  tile-drawn_from a n (Some kept ∷ tiles) zero within e = refl
  tile-drawn_from a zero (None ∷ tiles) zero within e = refl
  tile-drawn_from a (suc n) (None ∷ tiles) zero within e = grind (arith, lt-ltb)
  tile-drawn_from a n (Some kept ∷ tiles) (suc k) within e =
      let there : a + suc k ≡ a + 1 + k = omega arith in
      tile-drawn_from (a + 1) n tiles k (omega arith) (e ∙ ap draw there)
      ∙ ap (λ m. drawn_where (nat_lt m n) rows (at tiles k)) (sym (dirty_after_clean kept (take k tiles)))
  tile-drawn_from a zero (None ∷ tiles) (suc k) within e = grind (arith, none_drawn, le-ltb)
  tile-drawn_from a (suc n) (None ∷ tiles) (suc k) within e =
      let there : a + suc k ≡ a + 1 + k = omega arith in
      tile-drawn_from (a + 1) n tiles k (omega arith) (e ∙ ap draw there)
      ∙ ap (λ first. drawn_where first rows (at tiles k))
      (before_one_more (dirty (take k tiles)) n (dirty (None ∷ take k tiles)) (dirty_after_dirty (take k tiles)))

pub redraw_law : RedrawLaw
redraw_law = record {
  tiles = λ image n t k is_table within.
      let draw : ℕ → List ℕ = λ i. tile_rows image (grid_of t.window i) in
      let here : k ≡ 0 + k = omega arith in
      tile-drawn_from draw (draw k) 0 n t.tiles k (omega (arith, is_table.full)) (ap draw here);
  count = λ image n t. dirty-drawn_from (λ i. tile_rows image (grid_of t.window i)) 0 n t.tiles;
}

-- what a redraw leaves, where m tiles are drawn of those that were there, all those before the end of the drawn ones
pub record IsRedrawn (image : Spot → Bool) (n m end : ℕ) (t : Table) (drawn : List Tile) : Type 0 where
  pub as_many : drawn ≡ drawn_from (λ k. tile_rows image (grid_of t.window k)) 0 n t.tiles
  pub size : length drawn ≡ length t.tiles
  pub left : dirty drawn ≡ dirty t.tiles - m
  pub clean : dirty (take end drawn) ≡ 0

pub redrawn_is : (image : Spot → Bool) (n m end all : ℕ) (t : Table) (lent before drawn : List Tile) → m ≡ min n all
    → all ≡ dirty t.tiles → lent ≡ t.tiles → before ≡ t.tiles → dirty (take end lent) ≡ m
    → drawn ≡ drawn_from (λ k. tile_rows image (grid_of t.window k)) 0 (dirty (take end before)) before
    → IsRedrawn image n m end t drawn
redrawn_is image n m end all t lent before drawn few counted same was many is =
    let draw : ℕ → List ℕ = λ k. tile_rows image (grid_of t.window k) in
    let now : drawn ≡ drawn_from draw 0 m t.tiles =
    is ∙ ap (λ tiles. drawn_from draw 0 (dirty (take end tiles)) tiles) was
    ∙ ap (λ k. drawn_from draw 0 k t.tiles) (ap (λ tiles. dirty (take end tiles)) (sym same) ∙ many) in
    record {
      as_many = now ∙ sym (drawn_as_many draw 0 n m t.tiles (few ∙ ap (min n) counted));
      size = ap length now ∙ length-drawn_from draw 0 m t.tiles;
      left = ap dirty now ∙ dirty-drawn_from draw 0 m t.tiles;
      clean = ap (λ tiles. dirty (take end tiles)) now ∙ ap dirty (take-drawn_from draw 0 m end t.tiles)
          ∙ dirty-drawn_from draw 0 m (take end t.tiles)
          ∙ omega (arith, ap (λ tiles. dirty (take end tiles)) (sym same), many);
    }
