-- How far from the centre of an arc a place of its stroke lies.
use Rattle.std.proofs.Common.{◌≡◌, ℕ, ◌+◌, ◌*◌, ◌-◌, ◌<◌, ◌≤◌, pos, ◌-ℤ◌, inl, inr, arith}
use Rattle.std.proofs.lemmas.Bool.{cases_lt}
use Rattle.std.proofs.lemmas.Int.{ints}
use Rattle.std.proofs.lemmas.Nat.{mul-le}
use Rattle.std.proofs.Math.Nat.{mul-le-mul_left}
use Rattle.cam_shapes.specs.Arc.{IsNearCircle}
use Rattle.cam_shapes.specs.Plane.{square}
use Rattle.cam_shapes.proofs.Circles.{same_inequality}
use Rattle.cam_shapes.proofs.Strokes.{not_beyond}

-- beyond m + r the left side of the inequality is more than the right one
beyond : (p q r m : ℕ) → q ≤ m * m → (m + r) * (m + r) < p → 4 * (r * r) * q < (p - (q + r * r)) * (p - (q + r * r))
beyond p q r m inside far =
    let gap = p - (q + r * r) in
    let wide : 2 * m * r + 1 ≤ gap = omega arith in
    omega (arith, mul-le (2 * m * r + 1) (2 * m * r + 1) gap gap wide wide, mul-le-mul_left (4 * (r * r)) inside)

gap_is : (p q s : ℕ) → q + s ≤ p → pos p -ℤ pos q -ℤ pos s ≡ pos (p - (q + s))
gap_is p q s h = omega (arith, ints)

too_far : (p q r m : ℕ) → q ≤ m * m → (m + r) * (m + r) < p → IsNearCircle (pos p) (pos q) (pos r) → ⊥
too_far p q r m inside far (inl sum) = omega (arith, ints)
too_far p q r m inside far (inr between) =
    let room : q + r * r ≤ p = omega arith in
    let second = (same_inequality (pos p) (pos q) (square (pos r))).0 between in
    let told = rw (gap_is p q (r * r) room) at second in
    omega (arith, ints, beyond p q r m inside far)

pub farthest : (p q r high : ℕ) → IsNearCircle (pos p) (pos q) (pos r) → q ≤ high * high → p ≤ (high + r) * (high + r)
farthest p q r high near inside = elim (cases_lt ((high + r) * (high + r)) p) [
  | inl far ↦ absurd (too_far p q r high inside far near)
  | inr most ↦ most
]

-- each of the two distances may be that of the circle
other : (p q r : ℕ) → IsNearCircle (pos p) (pos q) (pos r) → IsNearCircle (pos q) (pos p) (pos r)
other p q r it = grind (arith, ints)

pub nearest : (p q r low : ℕ) → IsNearCircle (pos p) (pos q) (pos r) → low * low ≤ q → (low - r) * (low - r) ≤ p
nearest p q r low near outside = elim (cases_lt p ((low - r) * (low - r))) [
  | inl inner ↦ absurd (elim (cases_lt low r) [
    | inl less ↦ omega (arith, inner, mul-le (low - r) (low - r) 0 0 (omega arith) (omega arith))
    | inr most ↦
        let whole : low - r + r ≡ low = omega arith in
        not_beyond q p r (low - r) inner (rw whole outside) (other p q r near)
  ])
  | inr most ↦ most
]
