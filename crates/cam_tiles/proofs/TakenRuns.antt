-- Runs that take in those of others.
use Rattle.std.proofs.Common.{◌≡◌, ◌≢◌, ◌↔◌, ◌⊎◌, ℕ, ◌+◌, ◌<◌, ◌≤◌, length, slice_index, slice_set}
use Rattle.std.proofs.Common.{get_or-set_other, get_or-set_same, inl, inr, arith}
use Rattle.std.proofs.lemmas.Bool.{cases_eq, cases_lt}
use Rattle.cam_rows.specs.Runs.{IsInRun}
use Rattle.cam_tiles.specs.declared.masks.runs.Runs.{Runs}
use Rattle.cam_tiles.specs.Machinery.Runs.{Fits, HasColumn}

-- those of another are taken in, in the rows above an end
pub record AreTaken (old other new : Runs) (end : ℕ) : Type 0 where
  pub band : new.band ≡ old.band
  pub sound : (row column : ℕ) → HasColumn new row column → HasColumn old row column ⊎ HasColumn other row column
  pub kept : (row column : ℕ) → HasColumn old row column → HasColumn new row column
  pub taken : (row column : ℕ) → row < end → HasColumn other row column → HasColumn new row column

module _ (old other now : Runs) (row first end : ℕ) (before : AreTaken old other now row)
    (small : row < length now.firsts) (small_end : row < length now.ends) (after : old.band.first ≤ row)
    (until : row < old.band.end) (within : (other.band.first ≤ row) × (row < other.band.end))
    (united : (k : ℕ) → IsInRun first end k
    ↔ (IsInRun (slice_index now.firsts row) (slice_index now.ends row) k
    ⊎ IsInRun (slice_index other.firsts row) (slice_index other.ends row) k)) where
  abbrev pub next : Runs
  next = record now { firsts = slice_set now.firsts row first; ends = slice_set now.ends row end }

  this : (r : ℕ) → r ≡ row → slice_index next.firsts r ≡ first
  this r e = rw e (get_or-set_same now.firsts row first 0 small)

  this_end : (r : ℕ) → r ≡ row → slice_index next.ends r ≡ end
  this_end r e = rw e (get_or-set_same now.ends row end 0 small_end)

  apart_first : (r : ℕ) → r ≢ row → slice_index next.firsts r ≡ slice_index now.firsts r
  apart_first r apart = get_or-set_other now.firsts row r first 0 apart

  apart_end : (r : ℕ) → r ≢ row → slice_index next.ends r ≡ slice_index now.ends r
  apart_end r apart = get_or-set_other now.ends row r end 0 apart

  grown : (r column : ℕ) → HasColumn now r column → HasColumn next r column
  grown r column has = elim (cases_eq r row) [
    | inl e ↦ (has.0, has.1, rw (this r e, this_end r e) ((united column).1 (inl (rw e at has.2))))
    | inr apart ↦ (has.0, has.1, rw (apart_first r apart, apart_end r apart) has.2)
  ]

  held : (r column : ℕ) → HasColumn next r column → HasColumn old r column ⊎ HasColumn other r column
  held r column on = elim (cases_eq r row) [
    | inl e ↦ elim ((united column).0 (rw (this r e, this_end r e) at on.2)) [
      | inl mine ↦ before.sound r column (on.0, on.1, rw e mine)
      | inr theirs ↦ inr (rw e (within.0, within.1, theirs))
    ]
    | inr apart ↦ before.sound r column (on.0, on.1, rw (apart_first r apart, apart_end r apart) at on.2)
  ]

  pub one_more_taken : AreTaken old other next (row + 1)
  one_more_taken = record {
    band = before.band;
    sound = held;
    kept = λ r column was. grown r column (before.kept r column was);
    taken = λ r column early has. elim (cases_lt r row) [
      | inl above ↦ grown r column (before.taken r column above has)
      | inr below ↦
          let e : r ≡ row = omega arith in
          rw before.band (
            omega (arith, e, after),
            omega (arith, e, until),
            rw (this r e, this_end r e) ((united column).1 (inr (rw e at has.2))),
          )
    ];
  }

-- the band is as it was
pub taken_fit : (old other new : Runs) (end rows : ℕ) → AreTaken old other new end → Fits rows old → Fits rows new
taken_fit old other new end rows taken fit = rw taken.band fit
