-- Runs of rows, of which a part is narrowed.
use Rattle.std.proofs.Common.{◌≡◌, ◌↔◌, ◌⊎◌, ℕ, ◌+◌, ◌-◌, ◌<◌, ◌≤◌, ℤ, pos, ◌-ℤ◌, ◌*ℤ◌, List, length, slice_index}
use Rattle.std.proofs.Common.{inl, inr, sym, subst, rules, arith}
use Rattle.std.proofs.lemmas.Bool.{cases_lt}
use Rattle.std.proofs.lemmas.List.{places}
use borrow.Rule.Slice.PartMut.{mid_of, put_mid}
use Rattle.cam_units.specs.declared.point.Spot.{Spot}
use Rattle.cam_units.proofs.Ring.{Atom, Difference, Product, equal}
use Rattle.cam_rows.specs.declared.centres.Centres.{Centres}
use Rattle.cam_rows.specs.Machinery.Narrowing.{AreNarrowed, IsInRow}
use Rattle.cam_rows.specs.Rows.{centre_at, row_below}
use Rattle.cam_rows.specs.Runs.{AreWideRows, IsWideRow}

-- ---- a part of a list that is written

module _ (first end : ℕ) (old part : List ℕ) (some : first < end) (long : end ≤ length old)
    (size : length part ≡ end - first) where
  abbrev pub written : List ℕ
  written = put_mid first (end - first) old part

  part_at : (k : ℕ) → first ≤ k → k < end → slice_index written k ≡ slice_index part (k - first)
  part_at k after until = search (rules, places)

  others_kept : (k : ℕ) → (k < first) ⊎ (end ≤ k) → slice_index written k ≡ slice_index old k
  others_kept k (inl early) = search (rules, places)
  others_kept k (inr late) = search (rules, places)

pub part_length : (first end : ℕ) (old : List ℕ) → first < end → end ≤ length old
    → length (mid_of first (end - first) old) ≡ end - first
part_length first end old some long = search (rules, places)

part_was : (first end k : ℕ) (old : List ℕ) → k < end - first
    → slice_index (mid_of first (end - first) old) k ≡ slice_index old (first + k)
part_was first end k old inside = search (rules, places)

-- ---- the runs of the rows of a part

module _ (columns first end : ℕ) (firsts ends new_firsts new_ends : List ℕ) (Part IsHeld : ℕ → ℕ → Type 0)
    (some : first < end) (long : end ≤ length firsts) (alike : length ends ≡ length firsts)
    (size : length new_firsts ≡ end - first) (size_ends : length new_ends ≡ end - first)
    (narrowed : AreNarrowed columns (mid_of first (end - first) firsts) (mid_of first (end - first) ends) Part
    (end - first) new_firsts new_ends)
    (inside : (k i : ℕ) → k < end - first → Part k i ↔ IsHeld (first + k) i)
    (outside : (k i : ℕ) → k < length firsts → (k < first) ⊎ (end ≤ k) → IsHeld k i) where
  abbrev now : List ℕ
  now = put_mid first (end - first) firsts new_firsts

  abbrev now_ends : List ℕ
  now_ends = put_mid first (end - first) ends new_ends

  long_ends : end ≤ length ends
  long_ends = omega (arith, long, alike)

  there : (k : ℕ) → first ≤ k → first + (k - first) ≡ k
  there k after = omega arith

  was : (k : ℕ) (old : List ℕ) → first ≤ k → k < end
      → slice_index (mid_of first (end - first) old) (k - first) ≡ slice_index old k
  was k old after until = grind (arith, part_was, there)

  each_in : (k i : ℕ) → first ≤ k → k < end → i < columns
      → IsInRow now now_ends k i ↔ (IsInRow firsts ends k i × IsHeld k i)
  each_in k i after until small =
      let within : k - first < end - first = omega arith in
      let told = narrowed.each (k - first) i within small in
      let held = rw (there k after) at (inside (k - first) i within) in
      let begin = part_at first end firsts new_firsts some long size k after until in
      let stop = part_at first end ends new_ends some long_ends size_ends k after until in
      rw (begin, stop) (
        (λ on.
            let both = told.0 on in
            (rw (was k firsts after until, was k ends after until) at both.0, held.0 both.1)),
        (λ both. told.1 (rw (was k firsts after until, was k ends after until) both.0, held.1 both.1)),
      )

  each_out : (k i : ℕ) → k < length firsts → (k < first) ⊎ (end ≤ k)
      → IsInRow now now_ends k i ↔ (IsInRow firsts ends k i × IsHeld k i)
  each_out k i within off = grind (arith, others_kept, long_ends)

  less_in : (k : ℕ) → first ≤ k → k < end → slice_index now_ends k ≤ slice_index ends k
  less_in k after until = grind (arith, part_at, long_ends, was)

  less_out : (k : ℕ) → (k < first) ⊎ (end ≤ k) → slice_index now_ends k ≤ slice_index ends k
  less_out k off = omega (arith, others_kept first end ends new_ends some long_ends size_ends k off)

  pub part_narrowed : AreNarrowed columns firsts ends IsHeld (length firsts) now now_ends
  part_narrowed = record {
    each = λ k i within small. elim (cases_lt k first) [
      | inl before ↦ each_out k i within (inl before)
      | inr after ↦ elim (cases_lt k end) [
        | inl until ↦ each_in k i after until small
        | inr late ↦ each_out k i within (inr late)
      ]
    ];
    within = λ k. elim (cases_lt k first) [
      | inl before ↦ less_out k (inl before)
      | inr after ↦ elim (cases_lt k end) [
        | inl until ↦ less_in k after until
        | inr late ↦ less_out k (inr late)
      ]
    ];
    same_firsts = λ k late. others_kept first end firsts new_firsts some long size k (inr (omega (arith, late, long)));
    same_ends = λ k late. others_kept first end ends new_ends some long_ends size_ends k (inr (omega (arith, late, long)));
  }

-- no row is narrowed
pub none_narrowed : (columns : ℕ) (firsts ends : List ℕ) (IsHeld : ℕ → ℕ → Type 0)
    → ((k i : ℕ) → k < length firsts → IsHeld k i) → AreNarrowed columns firsts ends IsHeld (length firsts) firsts ends
none_narrowed columns firsts ends IsHeld all = grind arith

-- ---- rows below one of them

further_down : (y step : ℤ) (first k : ℕ) → y -ℤ pos first *ℤ step -ℤ pos k *ℤ step ≡ y -ℤ pos (first + k) *ℤ step
further_down y step first k =
    equal
    (Difference (Difference (Atom y) (Product (Atom (pos first)) (Atom step))) (Product (Atom (pos k)) (Atom step)))
    (Difference (Atom y) (Product (Atom (pos (first + k))) (Atom step)))
    (omega arith)

pub below_part : (top : Centres) (first k : ℕ) → row_below (row_below top first) k ≡ row_below top (first + k)
below_part top first k = grind (arith, further_down)

pub part_rows : (top : Centres) (first count n : ℕ) → first + count ≤ n → AreWideRows top n
    → AreWideRows (row_below top first) count
part_rows top first count n fits rows k within =
    subst IsWideRow (sym (below_part top first k)) (rows (first + k) (omega (arith, fits, within)))

-- what a half plane from a row on tells
pub told_below : (top row : Centres) (first k i : ℕ) (B : Type 0) (P : Spot → Type 0) → row ≡ row_below top first
    → B ↔ P (centre_at (row_below row k) i) → B ↔ P (centre_at (row_below top (first + k)) i)
told_below top row first k i B P is told = grind (arith, below_part)
