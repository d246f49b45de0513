-- Dirty tiles that are drawn one after another.
use Rattle.std.proofs.Common.{◌≡◌, ℕ, suc, ◌+◌, ◌-◌, ◌<◌, ◌≤◌, List, [], ◌∷◌, ◌++◌, length, take, drop, set, get_or, length-drop}
use Rattle.std.proofs.Common.{Some, None, Bool, true, false, not, is_some, refl, sym, ap, ◌∙◌, append_assoc, arith}
use Rattle.std.proofs.lemmas.Bool.{false≢true, true≢false}
use Rattle.std.proofs.lemmas.List.{append-nil, drop_all, drop_more, drop-set-lt, length-take-le, take_all}
use Rattle.std.proofs.lemmas.List.{take_more, take_more_set}
use Rattle.std.proofs.lemmas.List.Sums.{sum_by-append}
use Rattle.std.proofs.Math.Seq.{take-add}
use borrow.Rule.Slice.PartMut.{Post-is, mid_of, put_mid}
use Rattle.cam_tiles.specs.Tables.{Tile, all_drawn_from, drawn_from}
use Rattle.cam_tiles.proofs.DrawnTiles.{dirty, dirty_after_clean, dirty_after_dirty, drawn_to}

-- what a test tells of a tile
pub read_dirty : (tile : Tile) (b : Bool) → is_some tile ≡ not b → b ≡ true → tile ≡ None
read_dirty tile b e f = grind (arith, true≢false)

pub read_clean : (tile : Tile) (b : Bool) → is_some tile ≡ not b → b ≡ false → (rows : List ℕ) × (tile ≡ Some rows)
read_clean tile b e f = grind (arith, false≢true)

module _ (draw : ℕ → List ℕ) where
  -- the tiles from number k of a list on are drawn, whose first one has the number `first`
  abbrev pub drawn_on : ℕ → ℕ → List Tile → List Tile
  drawn_on first k tiles = take k tiles ++ all_drawn_from draw (first + k) (drop k tiles)

  pub none_yet : (first : ℕ) (tiles : List Tile) → all_drawn_from draw first tiles ≡ drawn_on first 0 tiles
  none_yet first tiles = let same : first ≡ first + 0 = omega arith in ap (λ n. all_drawn_from draw n tiles) same

  pub all_done : (first k : ℕ) (tiles : List Tile) → length tiles ≤ k → drawn_on first k tiles ≡ tiles
  all_done first k tiles end = grind (arith, drop_all, append-nil, take_all)

  step : (first k : ℕ) (tiles : List Tile) (tile drawn : Tile) → k < length tiles → get_or tiles k tile ≡ tile
      → all_drawn_from draw (first + k) (tile ∷ drop (k + 1) tiles)
      ≡ drawn ∷ all_drawn_from draw (first + (k + 1)) (drop (k + 1) tiles)
      → drawn_on first k tiles ≡ (take k tiles ++ drawn ∷ []) ++ all_drawn_from draw (first + (k + 1)) (drop (k + 1) tiles)
  step first k tiles tile drawn within read one = grind (arith, drop_more, append_assoc)

  -- a clean tile stays
  pub next_clean : (first k : ℕ) (tiles : List Tile) (rows : List ℕ) → k < length tiles
      → get_or tiles k (Some rows) ≡ Some rows → drawn_on first k tiles ≡ drawn_on first (k + 1) tiles
  next_clean first k tiles rows within read =
      let same : first + k + 1 ≡ first + (k + 1) = omega arith in
      step first k tiles (Some rows) (Some rows) within read
      (ap (λ n. Some rows ∷ all_drawn_from draw n (drop (k + 1) tiles)) same)
      ∙ ap (λ front. front ++ all_drawn_from draw (first + (k + 1)) (drop (k + 1) tiles))
      (ap (λ t. take k tiles ++ t ∷ []) (sym read) ∙ sym (take_more tiles k (Some rows) within))

  -- a dirty one is drawn
  pub next_dirty : (first k : ℕ) (tiles : List Tile) (rows : List ℕ) → k < length tiles
      → get_or tiles k None ≡ None → rows ≡ draw (first + k)
      → drawn_on first k tiles ≡ drawn_on first (k + 1) (set tiles k (Some rows))
  next_dirty first k tiles rows within read is = grind (arith, step, take_more_set, drop-set-lt)

  pub all_clean : (k : ℕ) (tiles : List Tile) → dirty tiles ≡ 0 → all_drawn_from draw k tiles ≡ tiles
  all_clean k [] e = refl
  all_clean k (Some rows ∷ tiles) e =
      grind (arith, dirty_after_clean, all_clean (k + 1) tiles (omega (arith, dirty_after_clean rows tiles)))
  all_clean k (None ∷ tiles) e = absurd (omega (arith, dirty_after_dirty tiles))

  -- lists one behind another
  pub drawn_append : (k n : ℕ) (a b : List Tile) → n ≡ k + length a
      → all_drawn_from draw k (a ++ b) ≡ all_drawn_from draw k a ++ all_drawn_from draw n b
  drawn_append k n [] b e = let same : k ≡ n = omega arith in ap (λ m. all_drawn_from draw m b) same
  drawn_append k n (Some rows ∷ a) b e = grind (arith, drawn_append (k + 1) n a b (omega arith))
  drawn_append k n (None ∷ a) b e = ap (λ rest. Some (draw k) ∷ rest) (drawn_append (k + 1) n a b (omega arith))

  pub length-all_drawn_from : (k : ℕ) (tiles : List Tile) → length (all_drawn_from draw k tiles) ≡ length tiles
  length-all_drawn_from k [] = refl
  length-all_drawn_from k (Some rows ∷ tiles) = ap suc (length-all_drawn_from (k + 1) tiles)
  length-all_drawn_from k (None ∷ tiles) = ap suc (length-all_drawn_from (k + 1) tiles)

-- how many of the tiles from number k on are dirty
pub dirty_past_clean : (k : ℕ) (tiles : List Tile) (rows : List ℕ) → k < length tiles
    → get_or tiles k (Some rows) ≡ Some rows → dirty (drop k tiles) ≡ dirty (drop (k + 1) tiles)
dirty_past_clean k tiles rows within read = grind (arith, dirty, drop_more, dirty_after_clean)

pub dirty_past_dirty : (k : ℕ) (tiles : List Tile) (rows : List ℕ) → k < length tiles → get_or tiles k None ≡ None
    → dirty (drop k tiles) ≡ 1 + dirty (drop (k + 1) (set tiles k (Some rows)))
dirty_past_dirty k tiles rows within read =
    ap dirty (drop_more tiles k None within ∙ ap (λ t. t ∷ drop (k + 1) tiles) read)
    ∙ dirty_after_dirty (drop (k + 1) tiles)
    ∙ ap (λ rest. 1 + dirty rest) (sym (drop-set-lt (k + 1) tiles k (Some rows) (omega arith)))

pub middle_length : (first end : ℕ) (tiles : List Tile) → first ≤ end → end ≤ length tiles
    → length (mid_of first (end - first) tiles) ≡ end - first
middle_length first end tiles order within = grind (arith, length-take-le, length-drop)

-- the tiles before one that are dirty, where none before another is
module _ (start end : ℕ) (tiles : List Tile) (order : start ≤ end) (within : end ≤ length tiles)
    (clean : dirty (take start tiles) ≡ 0) where
  in_two : take end tiles ≡ take start tiles ++ mid_of start (end - start) tiles
  in_two =
      let there : end ≡ start + (end - start) = omega arith in
      ap (λ n. take n tiles) there ∙ take-add start (end - start) tiles

  pub dirty_between : dirty (mid_of start (end - start) tiles) ≡ dirty (take end tiles)
  dirty_between = grind (arith, dirty, in_two, sum_by-append)

  pub drawn_between : (draw : ℕ → List ℕ) (part : List Tile)
      → part ≡ all_drawn_from draw start (mid_of start (end - start) tiles)
      → put_mid start (end - start) tiles part ≡ drawn_from draw 0 (dirty (take end tiles)) tiles
  drawn_between draw part is =
      let front : List Tile = take start tiles in
      let mid : List Tile = mid_of start (end - start) tiles in
      let drawn : all_drawn_from draw 0 (take end tiles) ≡ front ++ part =
      ap (all_drawn_from draw 0) in_two
      ∙ drawn_append draw 0 start front mid (omega (arith, length-take-le start tiles (omega arith)))
      ∙ ap (λ those. those ++ all_drawn_from draw start mid) (all_clean draw 0 front clean)
      ∙ ap (λ those. front ++ those) (sym is) in
      ap (λ rest. front ++ (part ++ rest)) (Post-is start end tiles order)
      ∙ sym (append_assoc front part (drop end tiles))
      ∙ ap (λ those. those ++ drop end tiles) (sym drawn)
      ∙ sym (drawn_to draw 0 (dirty (take end tiles)) end tiles refl)
