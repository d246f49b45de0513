-- Marks that are odd in number, from a column on.
use Rattle.std.proofs.Common.{◌≡◌, ◌↔◌, ℕ, zero, suc, ◌+◌, ◌-◌, ◌*◌, ◌/◌, ◌%◌, ◌^◌, ◌<◌, ◌≤◌, ◌≢◌, ◌==◌, ◌⊎◌, Bool, true, false, IsTrue}
use Rattle.std.proofs.Common.{List, length, slice_index, slice_set, get_or-set_other, get_or-set_same, inl, inr, refl, ap, sym}
use Rattle.std.proofs.Common.{◌∙◌, arith}
use Rattle.std.specs.Int.{bit_at}
use Rattle.std.specs.Int.RustNames.{bit_xor}
use Rattle.std.proofs.Math.ListN.{length-set}
use Rattle.std.proofs.lemmas.Bool.{cases_eq, cases_lt}
use Rattle.std.proofs.lemmas.Nat.{shr-shr}
use Rattle.std.proofs.lemmas.Nat.Bits.{bit_at-lt, bit_at-zero, bit_at_lowest, bit_at_ones, bit_at_ones_above, bit_at_xor}
use Rattle.cam_shapes.specs.Sides.{differ}
use Rattle.cam_tiles.specs.Machinery.Spreading.{AreRowsSpread}
use Rattle.cam_tiles.specs.Machinery.Marks.{AreSpread, TurnsRow, is_marked, is_odd, is_set, is_turned, turns_past}

-- ---- exactly one of two

differ_apart : (a b c : Bool) → differ (differ a b) c ≡ differ a (differ b c)
differ_apart a b c = grind arith

differ_none : (a : Bool) → differ a false ≡ a
differ_none a = grind arith

-- ---- columns side by side

-- by another test that says the same
pub odd_alike : (f g : ℕ → Bool) (n c d : ℕ) → ((j : ℕ) → j < n → f (c + j) ≡ g (d + j)) → is_odd f n c ≡ is_odd g n d
odd_alike f g zero c d same = refl
odd_alike f g (suc n) c d same =
    let at : c + 0 ≡ c = omega arith in
    let at' : d + 0 ≡ d = omega arith in
    let first : f c ≡ g d = rw (at, at') at (same 0 (omega arith)) in
    ap (λ b. differ b (is_odd f n (c + 1))) first
    ∙ ap (differ (g d)) (odd_alike f g n (c + 1) (d + 1)
    (λ j h.
    let on : c + (j + 1) ≡ (c + 1) + j = omega arith in
    let on' : d + (j + 1) ≡ (d + 1) + j = omega arith in
    rw (on, on') at (same (j + 1) (omega arith))))

pub none_odd : (f : ℕ → Bool) (n c : ℕ) → ((j : ℕ) → c ≤ j → f j ≡ false) → is_odd f n c ≡ false
none_odd f zero c none = refl
none_odd f (suc n) c none =
    ap (λ b. differ b (is_odd f n (c + 1))) (none c (omega arith))
    ∙ none_odd f n (c + 1) (λ j h. none j (omega arith))

-- ---- the bits of a word

one_of : {x : ℕ} (m n : ℕ) → x ≡ (m + n) % 2 → m < 2 → n < 2 → (x == 1) ≡ differ (m == 1) (n == 1)
one_of m n e h k = grind arith

set_in_xor : (a b i : ℕ) → is_set (bit_xor a b) i ≡ differ (is_set a i) (is_set b i)
set_in_xor a b i = one_of (bit_at a i) (bit_at b i) (bit_at_xor a b i) (bit_at-lt a i) (bit_at-lt b i)

set_in_shr : (n places i : ℕ) → is_set (n / 2 ^ places) i ≡ is_set n (i + places)
set_in_shr n places i = ap (λ m. m % 2 == 1) (shr-shr n places i ∙ ap (λ k. n / 2 ^ k) (omega arith))

-- ---- one mark more

swapped : (a b : Bool) → differ (differ a true) b ≡ differ (differ a b) true
swapped a b = grind arith

pub odd_flipped : (f g : ℕ → Bool) (p n c : ℕ) → ((j : ℕ) → j ≢ p → g j ≡ f j) → g p ≡ differ (f p) true → c ≤ p
    → p < c + n → is_odd g n c ≡ differ (is_odd f n c) true
odd_flipped f g p zero c others flip h k = absurd (omega (arith, h, k))
odd_flipped f g p (suc n) c others flip h k = elim (cases_eq c p) [
  | inl is ↦
      let here : g c ≡ differ (f c) true = rw is flip in
      ap (λ b. differ b (is_odd g n (c + 1))) here
      ∙ ap (differ (differ (f c) true))
      (odd_alike g f n (c + 1) (c + 1) (λ j _. others ((c + 1) + j) (λ e. omega (arith, e, is))))
      ∙ swapped (f c) (is_odd f n (c + 1))
  | inr apart ↦
      ap (λ b. differ b (is_odd g n (c + 1))) (others c apart)
      ∙ ap (differ (f c))
      (odd_flipped f g p n (c + 1) others flip (omega (arith, h, apart)) (omega (arith, k)))
      ∙ sym (differ_apart (f c) (is_odd f n (c + 1)) true)
]

-- the bits of a word up to one
low_bit : (b i : ℕ) → b < 64 → i ≤ b → is_set ((2 ^ 64 - 1) / 2 ^ (63 - b)) i ≡ true
low_bit b i short before =
    set_in_shr (2 ^ 64 - 1) (63 - b) i
    ∙ ap (λ x. x == 1) (bit_at_ones 64 (i + (63 - b)) (omega (arith, short, before)))

no_low_bit : (b i : ℕ) → b < 64 → b < i → is_set ((2 ^ 64 - 1) / 2 ^ (63 - b)) i ≡ false
no_low_bit b i short behind =
    set_in_shr (2 ^ 64 - 1) (63 - b) i
    ∙ ap (λ x. x == 1) (bit_at_ones_above 64 (i + (63 - b)) (omega (arith, short, behind)))

held_turned : (new was : Bool) (Held : Type 0) → Held → new ≡ differ was true
    → IsTrue new ↔ ((IsTrue was × (Held → ⊥)) ⊎ ((IsTrue was → ⊥) × Held))
held_turned new was Held held e = grind arith

other_kept : (new was : Bool) (Held : Type 0) → (Held → ⊥) → new ≡ was
    → IsTrue new ↔ ((IsTrue was × (Held → ⊥)) ⊎ ((IsTrue was → ⊥) × Held))
other_kept new was Held none e = grind arith

module _ (marks : List ℕ) (row p : ℕ) (low : row < 64) (whole : length marks % 64 ≡ 0) (within : p < length marks) where
  abbrev word : ℕ
  word = p / 64 * 64 + row

  abbrev turning : ℕ
  turning = (2 ^ 64 - 1) / 2 ^ (63 - p % 64)

  abbrev marked : List ℕ
  marked = slice_set marks word (bit_xor (slice_index marks word) turning)

  in_marks : word < length marks
  in_marks = omega (arith, low, whole, within)

  here : (i : ℕ) → is_set (slice_index marked word) i ≡ differ (is_set (slice_index marks word) i) (is_set turning i)
  here i = let inside = in_marks in rw get_or-set_same (set_in_xor (slice_index marks word) turning i)

  elsewhere : (k : ℕ) → k ≢ word → slice_index marked k ≡ slice_index marks k
  elsewhere k apart = get_or-set_other marks word k _ _ apart

  size : length marked ≡ length marks
  size = length-set marks word _

  -- words that are as they were, and so tiles
  tiles_kept : (r n t : ℕ) → ((j : ℕ) → 64 * (t + j) + r ≢ word)
      → is_odd (turns_past marked r) n t ≡ is_odd (turns_past marks r) n t
  tiles_kept r n t apart =
      odd_alike (turns_past marked r) (turns_past marks r) n t t
      (λ j _. ap (λ w. is_set w 0) (elsewhere (64 * (t + j) + r) (apart j)))

  -- what the tiles right of a column's turn over
  abbrev past : List ℕ → ℕ → ℕ → Bool
  past words r c = is_odd (turns_past words r) (length marks / 64 - (c / 64 + 1)) (c / 64 + 1)

  turned_kept : (r c : ℕ) → is_marked marked r c ≡ is_marked marks r c
      → ((j : ℕ) → 64 * (c / 64 + 1 + j) + r ≢ word) → is_turned marked r c ≡ is_turned marks r c
  turned_kept r c same apart = grind (arith, size, tiles_kept)

  turned_elsewhere : (r c : ℕ) → r < 64 → r ≢ row → is_turned marked r c ≡ is_turned marks r c
  turned_elsewhere r c small apart = grind (arith, turned_kept, elsewhere)

  turned_right : (c : ℕ) → p < c → is_turned marked row c ≡ is_turned marks row c
  turned_right c after = grind (arith, turned_kept, cases_eq, here, no_low_bit, differ_none, elsewhere)

  turned_here : (c : ℕ) → c ≤ p → is_turned marked row c ≡ differ (is_turned marks row c) true
  turned_here c before = elim (cases_eq (c / 64) (p / 64)) [
    | inl same ↦
        let which : 64 * (c / 64) + row ≡ word = omega (arith, same) in
        let flip : is_marked marked row c ≡ differ (is_marked marks row c) true =
        rw which (here (c % 64)
        ∙ ap (differ (is_set (slice_index marks word) (c % 64)))
        (low_bit (p % 64) (c % 64) (omega arith) (omega (arith, same, before)))) in
        rw size (ap (λ b. differ b (past marked row c)) flip
        ∙ ap (differ (differ (is_marked marks row c) true))
        (tiles_kept row (length marks / 64 - (c / 64 + 1)) (c / 64 + 1) (λ j e. omega (arith, e, same)))
        ∙ swapped (is_marked marks row c) (past marks row c))
    | inr apart ↦
        let kept : is_marked marked row c ≡ is_marked marks row c =
        ap (λ w. is_set w (c % 64)) (elsewhere (64 * (c / 64) + row) (λ e. apart (omega (arith, e)))) in
        let which : 64 * (p / 64) + row ≡ word = omega arith in
        let flip : turns_past marked row (p / 64) ≡ differ (turns_past marks row (p / 64)) true =
        rw which (here 0 ∙ ap (differ (is_set (slice_index marks word) 0))
        (low_bit (p % 64) 0 (omega arith) (omega arith))) in
        rw size (ap (λ b. differ b (past marked row c)) kept
        ∙ ap (differ (is_marked marks row c))
        (odd_flipped (turns_past marks row) (turns_past marked row) (p / 64) (length marks / 64 - (c / 64 + 1))
        (c / 64 + 1)
        (λ j other. ap (λ w. is_set w 0) (elsewhere (64 * j + row) (λ e. other (omega (arith, e))))) flip
        (omega (arith, before, apart)) (omega (arith, whole, within, before, apart)))
        ∙ sym (differ_apart (is_marked marks row c) (past marks row c) true))
  ]

  -- a mark turns over its own column and all left of it
  pub turns_before : (end : ℕ) → p + 1 ≡ end → TurnsRow row (λ c. c < end) marks marked
  turns_before end e r c small inside = elim (cases_eq r row) [
    | inl is ↦ elim (cases_lt c end) [
      | inl before ↦ held_turned _ _ _ (is, before) (rw is (turned_here c (omega (arith, e, before))))
      | inr after ↦ other_kept _ _ _ (λ held. omega (arith, held.1, after))
          (rw is (turned_right c (omega (arith, e, after))))
    ]
    | inr apart ↦ other_kept _ _ _ (λ held. apart held.0) (turned_elsewhere r c small apart)
  ]

-- no mark turns over none
pub turns_none : (row : ℕ) (marks : List ℕ) → TurnsRow row (λ c. c < 0) marks marks
turns_none row marks r c small inside = other_kept _ _ _ (λ held. omega (arith, held.1)) refl

-- ---- marks that are spread

-- no row of a tile is spread yet
pub no_row : (tile : ℕ) (marks : List ℕ) → AreRowsSpread tile 0 marks marks
no_row tile marks = grind arith

pub next_row : (tile row word right carry : ℕ) (old new : List ℕ) → word ≡ 64 * tile + row
    → right ≡ 64 * (tile + 1) + row → word < length new → row < 64 → AreRowsSpread tile row old new
    → ((i : ℕ) → i < 64 → is_set carry i ≡ is_set (slice_index new right) 0)
    → AreRowsSpread tile (row + 1) old (slice_set new word (bit_xor (slice_index new word) carry))
next_row tile row word right carry old new is is_right within low so_far carried =
    grind (arith, cases_eq, get_or-set_same, set_in_xor, get_or-set_other)

-- tiles that are spread, from one on to the last
pub record AreTilesSpread (first : ℕ) (old new : List ℕ) : Type 0 where
  pub size : length new ≡ length old
  pub done : (row c : ℕ) → row < 64 → 64 * first ≤ c → c < length old → is_marked new row c ≡ is_turned old row c
  pub kept : (word : ℕ) → word < 64 * first → slice_index new word ≡ slice_index old word

-- the last one has none right of it
pub last_tile : (first : ℕ) (marks : List ℕ) → first ≡ length marks / 64 - 1 → length marks % 64 ≡ 0
    → AreTilesSpread first marks marks
last_tile first marks is whole = grind (arith, differ_none)

pub next_tile : (tile first : ℕ) (old between new : List ℕ) → first ≡ tile + 1 → 64 * first + 64 ≤ length old
    → length new ≡ length between → AreTilesSpread first old between → AreRowsSpread tile 64 between new
    → AreTilesSpread tile old new
next_tile tile first old between new is room size so_far spread = record {
  size = size ∙ so_far.size;
  done = λ row c low late within. elim (cases_eq (c / 64) tile) [
    | inl same ↦
        let own : slice_index between (64 * tile + row) ≡ slice_index old (64 * tile + row) =
        so_far.kept (64 * tile + row) (omega (arith, is, low)) in
        let right = so_far.done row (64 * (tile + 1)) low (omega (arith, is)) (omega (arith, is, room)) in
        let which : 64 * (tile + 1) / 64 ≡ tile + 1 = omega arith in
        let bit : 64 * (tile + 1) % 64 ≡ 0 = omega arith in
        let rest : length old / 64 - (tile + 1) ≡ suc (length old / 64 - (tile + 1 + 1)) =
        omega (arith, is, room) in
        rw (same, rest) (spread.done row (c % 64) low (omega arith)
        ∙ ap (λ w. differ (is_set w (c % 64)) (turns_past between row (tile + 1))) own
        ∙ ap (differ (is_set (slice_index old (64 * tile + row)) (c % 64))) (rw (which, bit) at right))
    | inr apart ↦
        ap (λ w. is_set w (c % 64))
        (spread.others (64 * (c / 64) + row) (inr (omega (arith, late, apart))))
        ∙ so_far.done row c low (omega (arith, is, late, apart)) within
  ];
  kept = λ word before.
      spread.others word (inl before) ∙ so_far.kept word (omega (arith, is, before));
}

pub all_spread : (first : ℕ) (old new : List ℕ) → first ≡ 0 → AreTilesSpread first old new → AreSpread old new
all_spread first old new none so_far row c low within = so_far.done row c low (omega (arith, none)) within

-- the lowest bit
pub lowest_carried : (word carry i : ℕ) → i < 64 → word % 2 ≡ 1 → carry ≡ 2 ^ 64 - 1 → is_set carry i ≡ is_set word 0
lowest_carried word carry i small one e =
    rw e (ap (λ x. x == 1) (bit_at_ones 64 i small))
    ∙ sym (ap (λ x. x == 1) (bit_at_lowest word ∙ one))

pub nothing_carried : (word carry i : ℕ) → (word % 2 ≡ 1 → ⊥) → carry ≡ 0 → is_set carry i ≡ is_set word 0
nothing_carried word carry i none e = grind (arith, bit_at-zero, bit_at_lowest)
