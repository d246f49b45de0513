-- the greatest root, by its square and the next
use Rattle.std.proofs.Common.{◌≡◌, ℕ, zero, suc, ◌+◌, ◌*◌, ◌<◌, ◌≤◌, Bool, true, false, count_by, refl, ◌∙◌, inl, inr, arith}
use Rattle.std.specs.Prelude.{nat_le}
use Rattle.std.specs.List.{range_with_len}
use Rattle.std.proofs.lemmas.Bool.{cases_Bool, cases_lt, leb-true, le-leb}
use Rattle.std.proofs.lemmas.Nat.{mul-le}
use Rattle.cam_shapes.proofs.Parity.{count_by-cons, one_if}
use Rattle.cam_objects.specs.Bounds.{root}

module _ (n r : ℕ) (low : r * r ≤ n) (high : n < (r + 1) * (r + 1)) where
  abbrev has_square : ℕ → Bool
  has_square m = nat_le (m * m) n

  within : (a : ℕ) → a ≤ r → has_square a ≡ true
  within a h = le-leb (a * a) n (omega (arith, mul-le a a r r h h))

  beyond : (a : ℕ) → r < a → has_square a ≡ false
  beyond a h = grind (arith, cases_Bool, leb-true, mul-le)

  none : (a k : ℕ) → r < a → count_by has_square (range_with_len a k) ≡ 0
  none a zero h = refl
  none a (suc k) h =
      count_by-cons has_square a (range_with_len (a + 1) k)
      ∙ (λ i. one_if (beyond a h i) + none (a + 1) k (omega arith) i)

  some : (a k c : ℕ) → a + c ≡ r + 1 → c ≤ k → count_by has_square (range_with_len a k) ≡ c
  some a k zero e h = none a k (omega arith)
  some a zero (suc c) e h = absurd (omega arith)
  some a (suc k) (suc c) e h =
      count_by-cons has_square a (range_with_len (a + 1) k)
      ∙ (λ i. one_if (within a (omega arith) i) + some (a + 1) k c (omega arith) (omega arith) i)
      ∙ next c
    where
      next : (c : ℕ) → 1 + c ≡ suc c
      next c = omega arith

  few : r ≤ n
  few = grind (arith, mul-le)

  -- there is one such number
  pub is_root : root n ≡ r
  unfolding root
  is_root = some 1 n r (omega arith) few

-- and there is one
found : (n : ℕ) → (r : ℕ) × (r * r ≤ n) × (n < (r + 1) * (r + 1))
found zero = (0, omega arith, omega arith)
found (suc n) =
    let r = (found n).0 in
    elim (cases_lt (suc n) ((r + 1) * (r + 1))) [
      | inl less ↦ (r, omega (arith, (found n).1), less)
      | inr reached ↦ (r + 1, reached, omega (arith, (found n).2))
    ]

pub root_square : (n : ℕ) → (root n * root n ≤ n) × (n < (root n + 1) * (root n + 1))
root_square n =
    let r = found n in
    rw (is_root n r.0 r.1 r.2) (r.1, r.2)
