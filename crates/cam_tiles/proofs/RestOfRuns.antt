-- Runs of which those of others are taken out.
use Rattle.std.proofs.Common.{◌≡◌, ◌≢◌, ◌↔◌, ℕ, ◌+◌, ◌<◌, ◌≤◌, length, max, min, slice_index, slice_set}
use Rattle.std.proofs.Common.{get_or-set_other, get_or-set_same, inl, inr, refl, ◌∙◌, arith}
use Rattle.std.proofs.lemmas.Bool.{cases_eq, cases_lt}
use Rattle.cam_rows.specs.Runs.{IsInRun}
use Rattle.cam_tiles.specs.declared.masks.runs.Runs.{Runs}
use Rattle.cam_tiles.specs.Machinery.Runs.{HasColumn}

-- those of another are taken out, in the rows above an end
pub record AreTakenOut (old other new : Runs) (end : ℕ) : Type 0 where
  pub band : new.band ≡ old.band
  pub sound : (row column : ℕ) → HasColumn new row column → HasColumn old row column
  pub kept : (row column : ℕ) → HasColumn old row column → (HasColumn other row column → ⊥) → HasColumn new row column
  pub out : (row column : ℕ) → row < end → HasColumn new row column → HasColumn other row column → ⊥

-- what is left of a run without another that begins no later, or ends no earlier
pub cut_first : (first end out until new : ℕ) → out ≤ first → new ≡ max first until → (k : ℕ)
    → IsInRun new end k ↔ (IsInRun first end k × (IsInRun out until k → ⊥))
cut_first first end out until new early is k = grind (arith, cases_lt)

pub cut_end : (first end out until new : ℕ) → end ≤ until → new ≡ min end out → (k : ℕ)
    → IsInRun first new k ↔ (IsInRun first end k × (IsInRun out until k → ⊥))
cut_end first end out until new late is k = grind (arith, cases_lt)

module _ (old other now next : Runs) (row : ℕ) (before : AreTakenOut old other now row) (band : next.band ≡ now.band)
    (within : (other.band.first ≤ row) × (row < other.band.end))
    (others_first : (r : ℕ) → r ≢ row → slice_index next.firsts r ≡ slice_index now.firsts r)
    (others_end : (r : ℕ) → r ≢ row → slice_index next.ends r ≡ slice_index now.ends r)
    (left : (k : ℕ) → IsInRun (slice_index next.firsts row) (slice_index next.ends row) k
    ↔ (IsInRun (slice_index now.firsts row) (slice_index now.ends row) k
    × (IsInRun (slice_index other.firsts row) (slice_index other.ends row) k → ⊥))) where
  shrunk : (r column : ℕ) → HasColumn next r column → HasColumn now r column
  shrunk r column on = elim (cases_eq r row) [
    | inl e ↦ let was = ((left column).0 (rw e at on.2)).0 in (rw band at on.0, rw band at on.1, rw e was)
    | inr apart ↦ (rw band at on.0, rw band at on.1, rw (others_first r apart, others_end r apart) at on.2)
  ]

  stays : (r column : ℕ) → HasColumn now r column → (HasColumn other r column → ⊥) → HasColumn next r column
  stays r column was none = elim (cases_eq r row) [
    | inl e ↦
        let in_row = (left column).1 (rw e at was.2, λ there. none (omega (arith, within.0, e), omega (arith, within.1, e), rw e there)) in
        (rw band was.0, rw band was.1, rw e in_row)
    | inr apart ↦ (rw band was.0, rw band was.1, rw (others_first r apart, others_end r apart) was.2)
  ]

  one_more_out : AreTakenOut old other next (row + 1)
  one_more_out = record {
    band = band ∙ before.band;
    sound = λ r column on. before.sound r column (shrunk r column on);
    kept = λ r column was none. stays r column (before.kept r column was none) none;
    out = λ r column early on there. elim (cases_lt r row) [
      | inl above ↦ before.out r column above (shrunk r column on) there
      | inr below ↦
          let e : r ≡ row = omega (arith, early, below) in
          ((left column).0 (rw e at on.2)).1 (rw e at there.2)
    ];
  }

module _ (old other now : Runs) (row new : ℕ) (before : AreTakenOut old other now row)
    (within : (other.band.first ≤ row) × (row < other.band.end)) where
  pub first_out : row < length now.firsts → slice_index other.firsts row ≤ slice_index now.firsts row
      → new ≡ max (slice_index now.firsts row) (slice_index other.ends row)
      → AreTakenOut old other (record now { firsts = slice_set now.firsts row new }) (row + 1)
  first_out small early is =
      one_more_out old other now (record now { firsts = slice_set now.firsts row new }) row before refl within
      (λ r apart. get_or-set_other now.firsts row r new 0 apart) (λ _ _. refl)
      (λ k. rw (get_or-set_same now.firsts row new 0 small)
      (cut_first (slice_index now.firsts row) (slice_index now.ends row) (slice_index other.firsts row)
      (slice_index other.ends row) new early is k))

  pub end_out : row < length now.ends → slice_index now.ends row ≤ slice_index other.ends row
      → new ≡ min (slice_index now.ends row) (slice_index other.firsts row)
      → AreTakenOut old other (record now { ends = slice_set now.ends row new }) (row + 1)
  end_out small late is =
      one_more_out old other now (record now { ends = slice_set now.ends row new }) row before refl within
      (λ _ _. refl) (λ r apart. get_or-set_other now.ends row r new 0 apart)
      (λ k. rw (get_or-set_same now.ends row new 0 small)
      (cut_end (slice_index now.firsts row) (slice_index now.ends row) (slice_index other.firsts row)
      (slice_index other.ends row) new late is k))
