-- Runs of rows, narrowed from the top row on.
use Rattle.std.proofs.Common.{◌≡◌, ℕ, ◌+◌, ◌<◌, ◌≤◌, ◌≢◌, ◌↔◌, List, length, slice_index, slice_set}
use Rattle.std.proofs.Common.{get_or-set_other, get_or-set_same, inl, inr, sym, ◌∙◌, arith}
use Rattle.std.proofs.Math.ListN.{length-set}
use Rattle.std.proofs.lemmas.Bool.{cases_eq, cases_lt}
use Rattle.std.proofs.lemmas.List.{get_or_past}
use Rattle.cam_rows.specs.Machinery.Narrowing.{AreNarrowed, IsInRow}
use Rattle.cam_rows.specs.Runs.{IsInRun}

-- what is in a run and held, told in other words
pub run_by : (R S P Q : Type 0) → R ↔ (S × P) → P ↔ Q → R ↔ (S × Q)
run_by R S P Q told same = grind arith

-- with their lengths
pub record AreNarrowedAbove (columns : ℕ) (firsts ends : List ℕ) (IsHeld : ℕ → ℕ → Type 0) (end : ℕ)
    (new_firsts new_ends : List ℕ) : Type 0 where
  pub narrowed : AreNarrowed columns firsts ends IsHeld end new_firsts new_ends
  pub firsts_size : length new_firsts ≡ length firsts
  pub ends_size : length new_ends ≡ length ends

module _ (columns : ℕ) (firsts ends : List ℕ) (IsHeld : ℕ → ℕ → Type 0) where
  pub no_runs : AreNarrowedAbove columns firsts ends IsHeld 0 firsts ends
  no_runs = grind arith

  -- one more row
  pub next_run : (new_firsts new_ends : List ℕ) (row first end : ℕ) → row < length firsts
      → length ends ≡ length firsts
      → AreNarrowedAbove columns firsts ends IsHeld row new_firsts new_ends
      → ((i : ℕ) → i < columns → IsInRun first end i ↔ (IsInRow new_firsts new_ends row i × IsHeld row i))
      → end ≤ slice_index new_ends row
      → AreNarrowedAbove columns firsts ends IsHeld (row + 1) (slice_set new_firsts row first)
      (slice_set new_ends row end)
  next_run new_firsts new_ends row first end within alike above here less =
      let in_firsts : row < length new_firsts = omega (arith, above.firsts_size, within) in
      let in_ends : row < length new_ends = omega (arith, above.ends_size, within, alike) in
      let were = above.narrowed in
      record {
        narrowed = record {
          each = λ k i early small. elim (cases_lt k row) [
            | inl before ↦
                let apart : k ≢ row = omega arith in
                rw (get_or-set_other, get_or-set_other) (were.each k i before small)
            | inr after ↦
                let is : k ≡ row = omega arith in
                rw (
                  is,
                  get_or-set_same,
                  get_or-set_same,
                  ← were.same_firsts row (omega arith),
                  ← were.same_ends row (omega arith),
                )
                (here i small)
          ];
          within = λ k. elim (cases_eq k row) [
            | inl is ↦ rw (is, get_or-set_same) (omega (arith, less, were.within row))
            | inr apart ↦ rw get_or-set_other (were.within k)
          ];
          same_firsts = λ k late.
              let apart : k ≢ row = omega arith in rw get_or-set_other (were.same_firsts k (omega arith));
          same_ends = λ k late.
              let apart : k ≢ row = omega arith in rw get_or-set_other (were.same_ends k (omega arith));
        };
        firsts_size = length-set new_firsts row _ ∙ above.firsts_size;
        ends_size = length-set new_ends row _ ∙ above.ends_size;
      }

  -- all rows
  pub all_runs : (new_firsts new_ends : List ℕ) (end : ℕ) → length firsts ≤ end → length ends ≡ length firsts
      → AreNarrowedAbove columns firsts ends IsHeld end new_firsts new_ends
      → AreNarrowed columns firsts ends IsHeld (length firsts) new_firsts new_ends
  all_runs new_firsts new_ends end all alike above = record {
    each = λ k i within small. above.narrowed.each k i (omega arith) small;
    within = above.narrowed.within;
    same_firsts = λ k late.
        get_or_past new_firsts k 0 (omega (arith, above.firsts_size, late))
        ∙ sym (get_or_past firsts k 0 late);
    same_ends = λ k late.
        get_or_past new_ends k 0 (omega (arith, above.ends_size, alike, late))
        ∙ sym (get_or_past ends k 0 (omega (arith, alike, late)));
  }
