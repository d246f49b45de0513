-- Places near a circle, between two bounds of the square of their distance from its centre.
use Rattle.std.proofs.Common.{◌≡◌, ◌↔◌, ◌⊎◌, ℕ, ◌+◌, ◌-◌, ◌*◌, ◌<◌, ◌≤◌, ℤ, pos, ◌-ℤ◌, ◌≤ℤ◌, inl, inr, arith}
use Rattle.std.specs.Int.RustNames.{unsigned_abs}
use Rattle.std.proofs.lemmas.Int.{ints}
use Rattle.std.proofs.lemmas.Bool.{cases_lt}
use Rattle.std.proofs.lemmas.Nat.{mul-le}
use Rattle.cam_shapes.specs.Plane.{square}
use Rattle.cam_shapes.specs.Arc.{IsNearCircle}
use Rattle.cam_shapes.proofs.Widths.{square_is}
use Rattle.cam_shapes.proofs.Circles.{same_inequality}
use Rattle.cam_rows.proofs.Circling.{below_root}

-- p, q and s are squares: of the distance, of the circle's radius and of the stroke's; the root is that of 4sq
abbrev IsRoot : ℕ → ℕ → Type 0
IsRoot root n = (root * root ≤ n) × (n < (root + 1) * (root + 1))

abbrev IsByRoot : ℕ → ℕ → ℕ → ℕ → Type 0
IsByRoot p q s root = (q + s ≤ p + root) × (p ≤ q + s + root)

gap_within : (p q s root : ℕ) → (unsigned_abs (pos p -ℤ pos q -ℤ pos s) ≤ root) ↔ IsByRoot p q s root
gap_within p q s root = grind (arith, ints)

square_within : (z : ℤ) (n : ℕ) → (square z ≤ℤ pos n) ↔ (unsigned_abs z * unsigned_abs z ≤ n)
square_within z n = rw (square_is z) ((λ h. omega (arith, ints)), (λ h. omega (arith, ints)))

between_by_root : (p q s root : ℕ) → IsRoot root (4 * s * q)
    → (square (pos p -ℤ pos q -ℤ pos s) ≤ℤ pos (4 * s * q)) ↔ IsByRoot p q s root
between_by_root p q s root is = grind (arith, below_root, square_within, gap_within)

near_by_root : (p q s root : ℕ) (r : ℤ) → pos s ≡ square r → IsRoot root (4 * s * q)
    → IsNearCircle (pos p) (pos q) r ↔ ((p + q ≤ s) ⊎ IsByRoot p q s root)
near_by_root p q s root r e is =
    let between = between_by_root p q s root is in
    let forms = same_inequality (pos p) (pos q) (pos s) in
    rw (← e) (
      (λ near. elim near [
        | inl sum ↦ inl (omega (arith, ints))
        | inr circles ↦ inr (between.0 (forms.0 circles))
      ]),
      (λ near. elim near [
        | inl sum ↦ inl (omega (arith, ints))
        | inr root_near ↦ inr (forms.1 (between.1 root_near))
      ]),
    )

-- where the stroke is as wide as the circle, it holds the centre
long_root : (q s root : ℕ) → q ≤ s → IsRoot root (4 * s * q) → 2 * q ≤ root
long_root q s root order is =
    elim (cases_lt root (2 * q)) [
      | inl short ↦ absurd (omega (
        arith,
        is.1,
        mul-le q q s q order (omega arith),
        mul-le (root + 1) (root + 1) (2 * q) (2 * q) (omega arith) (omega arith),
      ))
      | inr long ↦ long
    ]

full_ring : (p q s root : ℕ) → q ≤ s → IsRoot root (4 * s * q)
    → ((p + q ≤ s) ⊎ IsByRoot p q s root) ↔ ((0 ≤ p) × (p < q + s + root + 1))
full_ring p q s root order is = grind (arith, long_root, cases_lt)

open_ring : (p q s root : ℕ) → s < q
    → ((p + q ≤ s) ⊎ IsByRoot p q s root) ↔ ((q + s - root ≤ p) × (p < q + s + root + 1))
open_ring p q s root order = grind arith

through : {A B C : Type 0} → (A ↔ B) → (B ↔ C) → A ↔ C
through f g = ((λ a. g.0 (f.0 a)), (λ c. f.1 (g.1 c)))

pub near_in_full_ring : (p q s root : ℕ) (d r : ℤ) → pos q ≡ d → pos s ≡ square r → root * root ≤ 4 * s * q
    → 4 * s * q < (root + 1) * (root + 1) → q ≤ s
    → IsNearCircle (pos p) d r ↔ ((0 ≤ p) × (p < q + s + root + 1))
near_in_full_ring p q s root d r e f least greatest order =
    rw (← e) (through (near_by_root p q s root r f (least, greatest)) (full_ring p q s root order (least, greatest)))

pub near_in_open_ring : (p q s root : ℕ) (d r : ℤ) → pos q ≡ d → pos s ≡ square r → root * root ≤ 4 * s * q
    → 4 * s * q < (root + 1) * (root + 1) → s < q
    → IsNearCircle (pos p) d r ↔ ((q + s - root ≤ p) × (p < q + s + root + 1))
near_in_open_ring p q s root d r e f least greatest order =
    rw (← e) (through (near_by_root p q s root r f (least, greatest)) (open_ring p q s root order))
