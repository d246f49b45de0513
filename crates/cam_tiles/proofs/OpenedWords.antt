-- Words that are opened: those of the dirty ones of tiles.
use Rattle.std.proofs.Common.{◌≡◌, ◌≢◌, ◌↔◌, ◌⊎◌, ℕ, ◌+◌, ◌-◌, ◌*◌, ◌/◌, ◌%◌, ◌^◌, ◌<◌, ◌≤◌, ◌&&◌, not, Bool, true, false, if◌then◌else◌}
use Rattle.std.proofs.Common.{List, length, nat_lt, slice_index, slice_set, bit_and, refl, ap, sym, ◌∙◌, inl, inr, arith}
use Rattle.std.proofs.Common.{get_or-set_other, get_or-set_same, Some, None, [], replicate}
use Rattle.std.specs.Prelude.{is_none, slice_index_or}
use Rattle.std.proofs.Math.ListN.{length-set}
use Rattle.std.specs.Int.{IsBitSet}
use Rattle.std.proofs.lemmas.Bool.{cases_eq, cases_lt, le-ltb, lt-ltb}
use Rattle.std.proofs.lemmas.List.{get_or-replicate, get_or_past, length-replicate}
use Rattle.cam_tiles.specs.Machinery.Marks.{is_marked, is_set}
use Rattle.cam_rows.specs.Runs.{IsInRun}
use Rattle.cam_tiles.specs.Machinery.Inks.{AreOpen, Inked, is_open}
use Rattle.cam_tiles.specs.Tables.{Tile}
use Rattle.cam_tiles.proofs.InkWords.{set_in_all, set_in_both, set_in_none, set_in_rest}
use Rattle.cam_tiles.proofs.JoinedWords.{bit_told}

-- the first of so many columns are opened in as many rows of a tile, and all else stays
pub record AreOpened (tile columns rows : ℕ) (old new : List ℕ) : Type 0 where
  pub size : length new ≡ length old
  pub done : (row i : ℕ) → row < rows → i < 64 → is_set (slice_index new (64 * tile + row)) i
      ≡ (if nat_lt (64 * tile + i) columns then false else is_set (slice_index old (64 * tile + row)) i)
  pub others : (k : ℕ) → (k < 64 * tile) ⊎ (64 * tile + rows ≤ k) → slice_index new k ≡ slice_index old k

pub none_opened : (tile columns : ℕ) (words : List ℕ) → AreOpened tile columns 0 words words
none_opened tile columns words = record {
  size = refl;
  done = λ row i early small. absurd (omega (arith, early));
  others = λ k apart. refl;
}

false_by : (b : Bool) → (b ≡ true → ⊥) → b ≡ false
false_by b none = grind arith

run_set : (bits column columns i : ℕ) → (IsBitSet bits i ↔ ((i < 64) × IsInRun 0 columns (column + i))) → i < 64
    → is_set bits i ≡ nat_lt (column + i) columns
run_set bits column columns i run small = elim (cases_lt (column + i) columns) [
  | inl before ↦
      (bit_told bits i).1 (run.1 (small, (omega arith, before))) ∙ sym (lt-ltb (column + i) columns before)
  | inr behind ↦
      false_by _ (λ on. omega (arith, behind, (run.0 ((bit_told bits i).0 on)).1.1))
      ∙ sym (le-ltb (column + i) columns behind)
]

cleared : (was opens : Bool) → (was && not opens) ≡ (if opens then false else was)
cleared was opens = grind arith

pub next_opened : (tile columns row bits column k : ℕ) (old new : List ℕ) → AreOpened tile columns row old new → row < 64
    → column ≡ 64 * tile → k ≡ 64 * tile + row → bits < 2 ^ 64 → 64 * tile + 64 ≤ length old
    → ((i : ℕ) → i < 64 → IsBitSet bits i ↔ ((i < 64) × IsInRun 0 columns (column + i)))
    → AreOpened tile columns (row + 1) old (slice_set new k (bit_and (slice_index new k) (2 ^ 64 - 1 - bits)))
next_opened tile columns row bits column k old new before low left is fits room run = record {
  size = length-set new k _ ∙ before.size;
  done = λ r i early small. elim (cases_eq r row) [
    | inl same ↦
        let place : 64 * tile + r ≡ k = omega (arith, same, is) in
        rw (
          place,
          get_or-set_same new k _ 0 (omega (arith, is, low, room, before.size)),
          ← before.others k (inr (omega (arith, is))),
          ← left,
        )
        (set_in_both (slice_index new k) (2 ^ 64 - 1 - bits) i
        ∙ ap (λ b. is_set (slice_index new k) i && b)
        (set_in_rest bits i fits small ∙ ap not (run_set bits column columns i (run i small) small))
        ∙ cleared (is_set (slice_index new k) i) (nat_lt (column + i) columns))
    | inr apart ↦
        rw (get_or-set_other new k (64 * tile + r) _ 0 (omega (arith, apart, is)))
        (before.done r i (omega (arith, early, apart)) small)
  ];
  others = λ w either.
      let apart : w ≢ k = elim either [
        | inl early ↦ omega (arith, is, early)
        | inr late ↦ omega (arith, is, late)
      ] in
      get_or-set_other new k w _ 0 apart ∙ before.others w (elim either [
        | inl early ↦ inl early
        | inr late ↦ inr (omega (arith, late))
      ]);
}

-- ---- tiles

told : (opens : Bool) → (if not opens then Some false else None) ≡ (if opens then None else Some false)
told opens = grind arith

none_open : (a b c : Bool) → c ≡ false → true ≡ not (a && (b && c))
none_open a b c none = grind arith

some_open : (a b c : Bool) → c ≡ true → (if a && b then false else true) ≡ not (a && (b && c))
some_open a b c all = grind arith

-- those before one are open where they are dirty, and the others as they were
pub record AreOpenBefore (tile columns rows : ℕ) (tiles : List Tile) (old new : List ℕ) : Type 0 where
  pub size : length new ≡ length old
  pub done : (row column : ℕ) → row < 64 → column < 64 * tile
      → is_marked new row column ≡ not (is_open tiles columns rows row column)
  pub others : (k : ℕ) → 64 * tile ≤ k → slice_index new k ≡ slice_index old k

pub none_before : (columns rows : ℕ) (tiles : List Tile) (words : List ℕ) → AreOpenBefore 0 columns rows tiles words words
none_before columns rows tiles words = record {
  size = refl;
  done = λ row column low early. absurd (omega (arith, early));
  others = λ k late. refl;
}

module _ (tile columns rows : ℕ) (tiles : List Tile) (old now : List ℕ) (before : AreOpenBefore tile columns rows tiles old now)
    (inside : tile < length tiles)
    (all : (row column : ℕ) → row < 64 → column < 64 * length tiles → is_marked old row column ≡ true) where
  was_set : (row column : ℕ) → row < 64 → column / 64 ≡ tile → is_set (slice_index now (64 * tile + row)) (column % 64) ≡ true
  was_set row column low here =
      rw (before.others (64 * tile + row) (omega arith), ← here) (all row column low (omega (arith, here, inside)))

  -- a tile more, which is dirty
  pub next_open : (new : List ℕ) → length new ≡ length now
      → ((row i : ℕ) → row < 64 → i < 64 → is_set (slice_index new (64 * tile + row)) i
      ≡ (if nat_lt row rows && nat_lt (64 * tile + i) columns then false else is_set (slice_index now (64 * tile + row)) i))
      → ((k : ℕ) → (k < 64 * tile) ⊎ (64 * tile + 64 ≤ k) → slice_index new k ≡ slice_index now k)
      → is_none (slice_index_or tiles tile (Some [])) ≡ true → AreOpenBefore (tile + 1) columns rows tiles old new
  next_open new size each others dirty = record {
    size = size ∙ before.size;
    done = λ row column low early. elim (cases_eq (column / 64) tile) [
      | inl here ↦
          let place : 64 * tile + column % 64 ≡ column = omega (arith, here) in
          let set = each row (column % 64) low (omega arith) in
          rw here (rw (was_set row column low here, place) at set
          ∙ some_open (nat_lt row rows) (nat_lt column columns) _ dirty)
      | inr apart ↦
          ap (λ w. is_set w (column % 64)) (others (64 * (column / 64) + row) (inl (omega (arith, apart, early, low))))
          ∙ before.done row column low (omega (arith, apart, early))
    ];
    others = λ k late. others k (inr (omega (arith, late))) ∙ before.others k (omega (arith, late));
  }

  -- or which is not
  pub next_closed : is_none (slice_index_or tiles tile (Some [])) ≡ false → AreOpenBefore (tile + 1) columns rows tiles old now
  next_closed clean = record {
    size = before.size;
    done = λ row column low early. elim (cases_eq (column / 64) tile) [
      | inl here ↦
          rw here (was_set row column low here ∙ none_open (nat_lt row rows) (nat_lt column columns) _ clean)
      | inr apart ↦ before.done row column low (omega (arith, apart, early))
    ];
    others = λ k late. before.others k (omega (arith, late));
  }

-- all tiles, where so many columns and rows of them are open
pub all_open : (columns rows : ℕ) (tiles : List Tile) (k : Inked) → k.tiles ≡ length tiles
    → ((row column : ℕ) → row < 64 → column < 64 * length tiles
    → is_marked k.decided row column ≡ not (is_open tiles columns rows row column))
    → ((w : ℕ) → slice_index k.dark w ≡ 0) → AreOpen tiles columns rows k
all_open columns rows tiles k is set none = record {
  tiles = is;
  each = λ row column low inside.
      rw (set row column low (rw is at inside), none (64 * (column / 64) + row), set_in_none (column % 64))
      (told (is_open tiles columns rows row column));
}

-- ---- words that are all the same

pub zeros : (count k : ℕ) → slice_index (replicate count 0) k ≡ 0
zeros count k = elim (cases_lt k count) [
  | inl within ↦ get_or-replicate count k 0 0 within
  | inr past ↦ get_or_past (replicate count 0) k 0 (omega (arith, length-replicate {A = ℕ}, past))
]

pub all_set : (count row column : ℕ) → 64 * (column / 64) + row < count
    → is_marked (replicate count (2 ^ 64 - 1)) row column ≡ true
all_set count row column within =
    rw (get_or-replicate count (64 * (column / 64) + row) (2 ^ 64 - 1) 0 within) (set_in_all (column % 64) (omega arith))
