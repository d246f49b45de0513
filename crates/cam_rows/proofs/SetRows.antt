-- Lists that are written from their start on, one number after another.
use Rattle.std.proofs.Common.{◌≡◌, ◌↔◌, ℕ, ◌+◌, ◌<◌, ◌≤◌, List, length, slice_index, slice_set}
use Rattle.std.proofs.Common.{get_or-set_other, get_or-set_same, inl, inr, refl, sym, ◌∙◌, arith}
use Rattle.std.proofs.Math.ListN.{length-set}
use Rattle.std.proofs.lemmas.Bool.{cases_lt}
use Rattle.std.proofs.lemmas.List.{get_or_past}
use Rattle.cam_rows.specs.Machinery.Narrowing.{AreCounted, AreEndsCut, AreFirstsCut, AreNarrowed}

-- the numbers before a row are as they are to be there, and the others as they were
pub record AreSetAbove (IsFor : ℕ → ℕ → Type 0) (old : List ℕ) (row : ℕ) (new : List ℕ) : Type 0 where
  pub above : (k : ℕ) → k < row → IsFor k (slice_index new k)
  pub same : (k : ℕ) → row ≤ k → slice_index new k ≡ slice_index old k
  pub size : length new ≡ length old

module _ (IsFor : ℕ → ℕ → Type 0) (old : List ℕ) where
  pub none_set : AreSetAbove IsFor old 0 old
  none_set = record { above = λ k early. absurd (omega arith); same = λ _ _. refl; size = refl }

  pub next_set : (new : List ℕ) (row n : ℕ) → row < length old → AreSetAbove IsFor old row new → IsFor row n
      → AreSetAbove IsFor old (row + 1) (slice_set new row n)
  next_set new row n within before here = grind (arith, cases_lt, get_or-set_other, get_or-set_same, length-set)

-- ---- runs that are cut

module _ (columns : ℕ) (firsts ends new : List ℕ) (Cut IsHeld : ℕ → ℕ → Type 0) (alike : length ends ≡ length firsts) where
  pub ends_narrowed : length new ≡ length ends → ((k i : ℕ) → IsHeld k i ↔ Cut k i) → AreEndsCut Cut ends new
      → AreNarrowed columns firsts ends IsHeld (length firsts) firsts new
  ends_narrowed size same cut = record {
    each = λ k i within small.
        let here = cut k i (omega (arith, within, alike)) in (
          (λ on. let both = here.0 on.1 in ((on.0, both.0), (same k i).1 both.1)),
          (λ both. (both.0.0, here.1 (both.0.1, (same k i).0 both.1))),
        );
    within = λ k. elim (cases_lt k (length ends)) [
      | inl within ↦ elim (cases_lt (slice_index ends k) (slice_index new k)) [
        | inl more ↦ let both = (cut k (slice_index ends k) within).0 more in absurd (omega (arith, both.0))
        | inr most ↦ most
      ]
      | inr past ↦ rw (get_or_past new k 0 (omega (arith, past, size))) (omega arith)
    ];
    same_firsts = λ _ _. refl;
    same_ends = λ k late.
        get_or_past new k 0 (omega (arith, late, size, alike)) ∙ sym (get_or_past ends k 0 (omega (arith, late, alike)));
  }

  pub firsts_narrowed : length new ≡ length firsts → ((k i : ℕ) → IsHeld k i ↔ (Cut k i → ⊥))
      → AreFirstsCut columns Cut firsts new → AreNarrowed columns firsts ends IsHeld (length firsts) new ends
  firsts_narrowed size same cut = record {
    each = λ k i within small.
        let here = cut k i within small in (
          (λ on. let both = here.0 on.0 in ((both.0, on.1), (same k i).1 both.1)),
          (λ both. (here.1 (both.0.0, (same k i).0 both.1), both.0.1)),
        );
    within = λ k. omega arith;
    same_firsts = λ k late.
        get_or_past new k 0 (omega (arith, late, size)) ∙ sym (get_or_past firsts k 0 late);
    same_ends = λ _ _. refl;
  }

-- the same number of columns in all rows
pub same_counted : (columns n count : ℕ) (IsHeld : ℕ → ℕ → Type 0)
    → ((k i : ℕ) → k < n → (i < count) ↔ ((i < columns) × IsHeld k i)) → AreCounted columns IsHeld n (λ _. count)
same_counted columns n count IsHeld told = record {
  each = λ k i within small. let here = told k i within in ((λ on. (here.0 on).1), (λ held. here.1 (small, held)));
  within = λ k within. elim (cases_lt columns count) [
    | inl more ↦ let both = (told k columns within).0 more in absurd (omega (arith, both.0))
    | inr most ↦ most
  ];
}

-- and written for each row
pub counted_alike : (columns n : ℕ) (IsHeld : ℕ → ℕ → Type 0) (end same : ℕ → ℕ)
    → ((k : ℕ) → k < n → same k ≡ end k) → AreCounted columns IsHeld n end → AreCounted columns IsHeld n same
counted_alike columns n IsHeld end same alike counted = grind arith

-- ends of runs from the leftmost column on, of the columns that are held
pub all_counted : (columns n : ℕ) (old new : List ℕ) (IsHeld : ℕ → ℕ → Type 0) (row : ℕ) → n ≤ row
    → AreSetAbove (λ k end. (i : ℕ) → (i < end) ↔ ((i < columns) × IsHeld k i)) old row new
    → AreCounted columns IsHeld n (λ k. slice_index new k)
all_counted columns n old new IsHeld row all set = record {
  each = λ k i within small.
      let here = set.above k (omega arith) i in ((λ on. (here.0 on).1), (λ held. here.1 (small, held)));
  within = λ k within. elim (cases_lt columns (slice_index new k)) [
    | inl more ↦ let both = (set.above k (omega arith) columns).0 more in absurd (omega (arith, both.0))
    | inr most ↦ most
  ];
}
