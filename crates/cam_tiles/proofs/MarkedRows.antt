-- Marks in rows one below another, one after another.
use Rattle.std.proofs.Common.{◌≡◌, ◌↔◌, ◌⊎◌, ℕ, ◌+◌, ◌<◌, ◌≤◌, Bool, IsTrue, List, length, inl, inr, subst, arith}
use Rattle.std.proofs.lemmas.Bool.{cases_eq, cases_lt}
use Rattle.cam_tiles.specs.Machinery.Marks.{TurnsRow, TurnsRows}
use Rattle.cam_rows.specs.Runs.{IsInRun}

-- exactly one of two facts
abbrev IsOne : Type 0 → Type 0 → Type 0
IsOne was held = (was × (held → ⊥)) ⊎ ((was → ⊥) × held)

-- nothing is held yet
not_held : (b : Bool) (Held : Type 0) → (Held → ⊥) → IsTrue b ↔ IsOne (IsTrue b) Held
not_held b Held none = grind arith

-- another row is marked
one_of_other : (New Between Was P Q R : Type 0) → Between ↔ IsOne Was P → New ↔ IsOne Between Q → (Q → ⊥) → P ↔ R
    → New ↔ IsOne Was R
one_of_other New Between Was P Q R h k none same = grind arith

-- and the row itself, which was not
one_of_own : (new between was : Bool) (P Q R : Type 0) → IsTrue between ↔ IsOne (IsTrue was) P
    → IsTrue new ↔ IsOne (IsTrue between) Q → (P → ⊥) → Q ↔ R → IsTrue new ↔ IsOne (IsTrue was) R
one_of_own new between was P Q R h k none same = grind arith

pub record AreRowsTurned (first rows : ℕ) (IsHeld : ℕ → ℕ → Type 0) (old new : List ℕ) : Type 0 where
  pub size : length new ≡ length old
  pub turned : TurnsRows first rows IsHeld old new

module _ (first : ℕ) (IsHeld : ℕ → ℕ → Type 0) where
  pub none_turned : (marks : List ℕ) → AreRowsTurned first 0 IsHeld marks marks
  none_turned marks = grind (arith, not_held)

  pub next_turned : (k : ℕ) (old between new : List ℕ) (row : ℕ) → row ≡ first + k
      → length new ≡ length between → AreRowsTurned first k IsHeld old between
      → TurnsRow row (IsHeld k) between new → AreRowsTurned first (k + 1) IsHeld old new
  next_turned k old between new row is_row size so_far more = grind (arith, cases_eq, one_of_own, one_of_other)

  pub all_turned : (k n : ℕ) (old new : List ℕ) → k ≡ n → AreRowsTurned first k IsHeld old new
      → TurnsRows first n IsHeld old new
  all_turned k n old new e so_far = subst (λ (m : ℕ). TurnsRows first m IsHeld old new) e so_far.turned

-- ---- runs

-- a run is what two ends turn over one after the other
two_ends : (new between was : Bool) (P Q R : Type 0) → IsTrue between ↔ IsOne (IsTrue was) P
    → IsTrue new ↔ IsOne (IsTrue between) Q → (P → Q) → (Q → (P → ⊥) → R) → (R → Q × (P → ⊥))
    → P ⊎ (P → ⊥) → IsTrue new ↔ IsOne (IsTrue was) R
two_ends new between was P Q R h k in_both behind own either = grind arith

at_row : (r row c end : ℕ) → ((r ≡ row) × (c < end)) ⊎ ((r ≡ row) × (c < end) → ⊥)
at_row r row c end = grind (arith, cases_eq, cases_lt)

late : (r row c first : ℕ) → r ≡ row → ((r ≡ row) × (c < first) → ⊥) → first ≤ c
late r row c first is other = elim (cases_lt c first) [ inl before ↦ absurd (other (is, before)) | inr after ↦ after ]

pub run_turned : (row first end : ℕ) (old between new : List ℕ) → first < end → length between ≡ length old
    → TurnsRow row (λ c. c < first) old between → TurnsRow row (λ c. c < end) between new
    → TurnsRow row (IsInRun first end) old new
run_turned row first end old between new some size one two r c small within = grind (arith, two_ends, late, at_row)

pub no_run_turned : (row first end : ℕ) (marks : List ℕ) → end ≤ first → TurnsRow row (IsInRun first end) marks marks
no_run_turned row first end marks none r c small within = grind (arith, not_held)
