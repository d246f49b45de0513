-- Words of which some bits are decided, and what becomes of these.
use Rattle.std.proofs.Common.{rules, ◌≡◌, ◌≢◌, ℕ, ◌+◌, ◌-◌, ◌^◌, ◌<◌, ◌≤◌, ◌==◌, ◌&&◌, ◌||◌, not, min, max, Bool, true, false}
use Rattle.std.proofs.Common.{Some, None, if◌then◌else◌, List, length, slice_index, slice_set, bit_and, bit_or, ap, ◌∙◌, arith}
use Rattle.std.proofs.Common.{get_or-set_other, get_or-set_same, inl, inr, sym, take, drop, ◌*◌, ◌/◌}
use Rattle.std.specs.Int.{IsBitSet, bit_at, w64}
use Rattle.std.specs.Option.{option_or}
use Rattle.std.proofs.lemmas.Bool.{cases_eq, eq-eqb, eqb-true}
use Rattle.std.proofs.lemmas.Nat.{and_le_l, and_le_r}
use Rattle.std.proofs.lemmas.Nat.Bits.{bit_at-lt, bit_at-zero, bit_at_and, bit_at_not, bit_at_ones, bit_at_or, same_from_bits_below}
use Rattle.std.proofs.lemmas.List.{get_or-drop, get_or-take}
use Rattle.cam_tiles.specs.Machinery.Marks.{is_marked, is_set}
use Rattle.cam_tiles.specs.Machinery.Inks.{AreKnown, given, ink_of}
use Rattle.cam_tiles.proofs.JoinedWords.{bit_told}

-- ---- bits

least_one : (x y : ℕ) → x < 2 → y < 2 → (min x y == 1) ≡ (x == 1 && y == 1)
least_one x y small near = grind arith

most_one : (x y : ℕ) → x < 2 → y < 2 → (max x y == 1) ≡ (x == 1 || y == 1)
most_one x y small near = grind arith

rest_one : (x : ℕ) → x < 2 → (1 - x == 1) ≡ not (x == 1)
rest_one x small = grind arith

pub set_in_both : (a b i : ℕ) → is_set (bit_and a b) i ≡ (is_set a i && is_set b i)
set_in_both a b i = ap (λ n. n == 1) (bit_at_and a b i) ∙ least_one _ _ (bit_at-lt a i) (bit_at-lt b i)

set_in_either : (a b i : ℕ) → is_set (bit_or a b) i ≡ (is_set a i || is_set b i)
set_in_either a b i = ap (λ n. n == 1) (bit_at_or a b i) ∙ most_one _ _ (bit_at-lt a i) (bit_at-lt b i)

pub set_in_rest : (a i : ℕ) → a < 2 ^ 64 → i < 64 → is_set (2 ^ 64 - 1 - a) i ≡ not (is_set a i)
set_in_rest a i fits small =
    ap (λ n. n == 1) (bit_at_not w64 a i fits small) ∙ rest_one _ (bit_at-lt a i)

pub set_in_all : (i : ℕ) → i < 64 → is_set (2 ^ 64 - 1) i ≡ true
set_in_all i small = ap (λ n. n == 1) (bit_at_ones 64 i small)

pub set_in_none : (i : ℕ) → is_set 0 i ≡ false
set_in_none i = ap (λ n. n == 1) (bit_at-zero i)

-- a word that has all of some bits has each of them
right_of_both : (a b : Bool) → b ≡ true → (a && b) ≡ b → a ≡ true
right_of_both a b on same = grind arith

pub set_by_bits : (word bits i : ℕ) → bit_and word bits ≡ bits → IsBitSet bits i → is_set word i ≡ true
set_by_bits word bits i all on =
    right_of_both (is_set word i) (is_set bits i) ((bit_told bits i).1 on)
    (sym (set_in_both word bits i) ∙ ap (λ w. is_set w i) all)

-- and one that has each of them has all
least_of : (x y : ℕ) → y < 2 → (y ≡ 1 → x ≡ 1) → min x y ≡ y
least_of x y small on = grind arith

pub bits_by_set : (word bits : ℕ) → word < 2 ^ 64 → bits < 2 ^ 64
    → ((i : ℕ) → i < 64 → IsBitSet bits i → is_set word i ≡ true) → bit_and word bits ≡ bits
bits_by_set word bits fits small all =
    same_from_bits_below 64 (bit_and word bits) bits (omega (arith, and_le_r word bits, small)) small (λ i near.
    bit_at_and word bits i
    ∙ least_of (bit_at word i) (bit_at bits i) (bit_at-lt bits i)
    (λ on. eqb-true _ _ (all i near ((bit_told bits i).0 (eq-eqb _ _ on)))))

-- a word whose bits are all set is the greatest
pub all_set_is_most : (word : ℕ) → word < 2 ^ 64 → ((i : ℕ) → i < 64 → is_set word i ≡ true) → word ≡ 2 ^ 64 - 1
all_set_is_most word fits all = search (rules, same_from_bits_below, eqb-true, bit_at_ones)

-- ---- a word

taken : (d k b n : Bool)
    → (if d || (b && not d) then Some ((k && not (b && not d)) || ((b && not d) && n)) else None)
    ≡ option_or (if d then Some k else None) (given b n)
taken d k b n = grind arith

pub word_taken : (decided dark bits ink i : ℕ) → decided < 2 ^ 64 → bits < 2 ^ 64 → i < 64
    → (let new = bit_and bits (2 ^ 64 - 1 - decided) in
    ink_of (bit_or decided new) (bit_or (bit_and dark (2 ^ 64 - 1 - new)) (bit_and new ink)) i
    ≡ option_or (ink_of decided dark i) (given (is_set bits i) (is_set ink i)))
word_taken decided dark bits ink i fits small near = grind (arith, and_le_l, set_in_both, set_in_rest, set_in_either, taken)

-- ---- words side by side

-- the words before one have taken a polarity where bits say so, and the others are as they were
pub record AreTaken (ink : Bool) (bits old_decided old_dark : List ℕ) (end : ℕ) (decided dark : List ℕ) : Type 0 where
  pub done : (k i : ℕ) → k < end → i < 64
      → ink_of (slice_index decided k) (slice_index dark k) i
      ≡ option_or (ink_of (slice_index old_decided k) (slice_index old_dark k) i) (given (is_set (slice_index bits k) i) ink)
  pub later : (k : ℕ) → end ≤ k → slice_index decided k ≡ slice_index old_decided k
  pub later_dark : (k : ℕ) → end ≤ k → slice_index dark k ≡ slice_index old_dark k

pub next_taken : (ink : Bool) (bits old_decided old_dark : List ℕ) (k : ℕ) (decided dark : List ℕ) (word other all : ℕ)
    → AreTaken ink bits old_decided old_dark k decided dark → k < length decided → k < length dark
    → ((i : ℕ) → i < 64 → ink_of word other i
    ≡ option_or (ink_of (slice_index decided k) (slice_index dark k) i) (given (is_set (slice_index bits k) i) (is_set all i)))
    → ((i : ℕ) → i < 64 → is_set all i ≡ ink)
    → AreTaken ink bits old_decided old_dark (k + 1) (slice_set decided k word) (slice_set dark k other)
next_taken ink bits old_decided old_dark k decided dark word other all before inside within here inked = record {
  done = λ j i early small. elim (cases_eq j k) [
    | inl same ↦
        rw (
          same,
          get_or-set_same decided k word 0 inside,
          get_or-set_same dark k other 0 within,
          ← before.later k (omega arith),
          ← before.later_dark k (omega arith),
          ← inked i small,
        ) (here i small)
    | inr apart ↦
        rw (get_or-set_other decided k j word 0 apart, get_or-set_other dark k j other 0 apart)
        (before.done j i (omega (arith, early, apart)) small)
  ];
  later = λ j late.
      let apart : j ≢ k = omega (arith, late) in
      get_or-set_other decided k j word 0 apart ∙ before.later j (omega (arith, late));
  later_dark = λ j late.
      let apart : j ≢ k = omega (arith, late) in
      get_or-set_other dark k j other 0 apart ∙ before.later_dark j (omega (arith, late));
}

-- ---- the words of a tile

pub tile_part : (words : List ℕ) (tile row : ℕ) → row < 64
    → slice_index (take (64 * tile + 64 - 64 * tile) (drop (64 * tile) words)) row ≡ slice_index words (64 * tile + row)
tile_part words tile row low = grind (arith, get_or-take, get_or-drop)

pub marked_at : (words : List ℕ) (tile row i : ℕ) → i < 64
    → is_marked words row (64 * tile + i) ≡ is_set (slice_index words (64 * tile + row)) i
marked_at words tile row i small = grind arith

-- rows of a tile that are decided all along, by its own words
pub known_of : (words : List ℕ) (tile rows : ℕ) → rows ≤ 64 → AreKnown words tile rows → (row i : ℕ) → row < rows → i < 64
    → is_set (slice_index (take (64 * tile + 64 - 64 * tile) (drop (64 * tile) words)) row) i ≡ true
known_of words tile rows few known row i low small =
    let own : (64 * tile + i) / 64 ≡ tile = omega arith in
    ap (λ w. is_set w i) (tile_part words tile row (omega (arith, low, few)))
    ∙ sym (marked_at words tile row i small) ∙ known row (64 * tile + i) low own

pub known_by : (words : List ℕ) (tile rows : ℕ) → rows ≤ 64
    → ((row i : ℕ) → row < rows → i < 64
    → is_set (slice_index (take (64 * tile + 64 - 64 * tile) (drop (64 * tile) words)) row) i ≡ true)
    → AreKnown words tile rows
known_by words tile rows few all row column low here = grind (arith, tile_part)
