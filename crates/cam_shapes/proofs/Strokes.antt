-- Arc strokes lie in squares.
use Rattle.std.proofs.Common.{arith, inl, inr, pos, ℕ, ℤ, ◌*◌, ◌+ℤ◌, ◌+◌, ◌-ℤ◌, ◌-◌, ◌<ℤ◌, ◌<◌, ◌↔◌, ◌≡◌, ◌≤◌}
use Rattle.std.proofs.lemmas.Int.{ints}
use Rattle.std.proofs.lemmas.Bool.{cases_lt}
use Rattle.std.proofs.lemmas.Nat.{mul-le, mul-lt}
use Rattle.std.proofs.Math.Nat.{mul-le-mul_left}
use Rattle.std.specs.Int.RustNames.{unsigned_abs}
use Rattle.cam_shapes.specs.declared.vector.Vector.{Vector}
use Rattle.cam_shapes.specs.Plane.{dot, seen_from, square, way, IsBetween}
use Rattle.cam_shapes.specs.Arc.{ArcSquareLaw, CircleDistanceLaw, IsBetweenCircles, IsNearCircle}
use Rattle.cam_shapes.proofs.Widths.{square_is}
use Rattle.cam_shapes.proofs.Circles.{same_inequality}

-- from m + r on the left side is more than the right one
beyond : (p q r m : ℕ) → q < m * m → (m + r) * (m + r) ≤ p → 4 * (r * r) * q < (p - (q + r * r)) * (p - (q + r * r))
beyond p q r m inside far =
    let gap = p - (q + r * r) in
    let wide : 2 * m * r + 1 ≤ gap = omega arith in
    omega (arith, mul-le (2 * m * r + 1) (2 * m * r + 1) gap gap wide wide, mul-le-mul_left (4 * (r * r)) inside)

gap_is : (p q s : ℕ) → q + s ≤ p → pos p -ℤ pos q -ℤ pos s ≡ pos (p - (q + s))
gap_is p q s h = omega (arith, ints)

pub not_beyond : (p q r m : ℕ) → q < m * m → (m + r) * (m + r) ≤ p → IsNearCircle (pos p) (pos q) (pos r) → ⊥
not_beyond p q r m inside far (inl sum) = omega (arith, ints)
not_beyond p q r m inside far (inr between) =
    let gap = p - (q + r * r) in
    let room : q + r * r ≤ p = omega arith in
    let second = (same_inequality (pos p) (pos q) (square (pos r))).0 between in
    let told = rw (gap_is p q (r * r) room) at second in
    omega (arith, ints, beyond p q r m inside far)

pub squares_order : (x n : ℕ) → x * x ≤ n * n → x ≤ n
squares_order x n h = grind (arith, cases_lt, mul-lt)

within : (p q r m : ℕ) → q < m * m → IsNearCircle (pos p) (pos q) (pos r) → p ≤ (m + r) * (m + r)
within p q r m inside near =
    elim (cases_lt ((m + r) * (m + r)) p) [
      | inl far ↦ absurd (not_beyond p q r m inside (omega arith) near)
      | inr most ↦ most
    ]

pub dot_is : (v : Vector) → dot v v ≡ pos (unsigned_abs v.x * unsigned_abs v.x + unsigned_abs v.y * unsigned_abs v.y)
dot_is v = omega (arith, ints, square_is v.x, square_is v.y)

near_is_between : (v u : Vector) (r m : ℕ) → dot u u <ℤ pos (m * m) → IsNearCircle (dot v v) (dot u u) (pos r)
    → IsBetween v (pos (m + r)) (pos (m + r))
near_is_between v u r m inside near =
    let x = unsigned_abs v.x in
    let y = unsigned_abs v.y in
    let q = unsigned_abs u.x * unsigned_abs u.x + unsigned_abs u.y * unsigned_abs u.y in
    let most : x * x + y * y ≤ (m + r) * (m + r) =
    within (x * x + y * y) q r m (omega (arith, ints, dot_is u)) (rw (dot_is v, dot_is u) at near) in
    record {
      across = omega (arith, ints, squares_order x (m + r) (omega arith));
      along = omega (arith, ints, squares_order y (m + r) (omega arith));
    }

pub natural_or_not : (r : ℤ) → pos 0 <ℤ r → (n : ℕ) × (r ≡ pos n)
natural_or_not r h = grind (arith, ints)

pub arc_square : ArcSquareLaw
arc_square s a m inside on =
    let size = natural_or_not a.width.0 on.wide in
    elim on.near [
      | inl from ↦ inr (inl from)
      | inr rest ↦ elim rest [
        | inl to ↦ inr (inr to)
        | inr arc ↦
            let square_of =
            near_is_between (seen_from a.centre s) (way a.centre a.from) size.0 m inside (rw size.1 at arc.1) in
            inl (rw size.1 square_of)
      ]
    ]

-- lengths that differ by more than r
apart : (n d r : ℕ) → r < d → 2 * ((n + d) * n) + r * r < (n + d) * (n + d) + n * n
apart n d r h = omega (arith, mul-lt r r d d h h)

too_far : (m n r : ℕ) → n + r < m → 2 * (m * n) + r * r < m * m + n * n
too_far m n r h =
    let e : n + (m - n) ≡ m = omega arith in
    rw e at (apart n (m - n) r (omega arith))

-- lengths that differ by at most r
close : (n d r : ℕ) → d ≤ r → (n + d) * (n + d) + n * n ≤ 2 * ((n + d) * n) + r * r
close n d r h = omega (arith, mul-le d d r r h h)

near_enough : (m n r : ℕ) → n ≤ m → m ≤ n + r → m * m + n * n ≤ 2 * (m * n) + r * r
near_enough m n r order h =
    let e : n + (m - n) ≡ m = omega arith in
    rw e at (close n (m - n) r (omega arith))

both_near : (m n r : ℕ) → m ≤ n + r → n ≤ m + r → m * m + n * n ≤ 2 * (m * n) + r * r
both_near m n r h k =
    elim (cases_lt m n) [
      | inl less ↦ omega (arith, near_enough n m r (omega arith) k)
      | inr most ↦ near_enough m n r most h
    ]

sum_is : (m n r : ℕ) → r ≤ m + n → pos m +ℤ pos n -ℤ pos r ≡ pos (m + n - r)
sum_is m n r h = omega (arith, ints)

four_squares : (m n : ℕ) → 4 * (m * m) * (n * n) ≡ (2 * (m * n)) * (2 * (m * n))
four_squares m n = omega arith

-- the second inequality is that of the whole roots
between_is : (m n r : ℕ) → r * r ≤ m * m + n * n
    → IsBetweenCircles (pos (m * m)) (pos (n * n)) (pos r) ↔ (m * m + n * n ≤ 2 * (m * n) + r * r)
between_is m n r room = grind (arith, sum_is, ints, four_squares, squares_order, mul-le)

sum_in_root : (m n r : ℕ) → m * m + n * n ≤ r * r → m ≤ r
sum_in_root m n r h = squares_order m r (omega arith)

roots_apart : (m n r : ℕ) → m * m + n * n ≤ 2 * (m * n) + r * r → m ≤ n + r
roots_apart m n r h = grind (arith, cases_lt, too_far)

sum_apart : (m n r : ℕ) → m * m + n * n ≤ r * r → m ≤ n + r
sum_apart m n r h = omega (arith, sum_in_root m n r h)

by_sum : (m n r : ℕ) → m * m + n * n ≤ r * r → (m ≤ n + r) × (n ≤ m + r)
by_sum m n r h = (sum_apart m n r h, sum_apart n m r (omega arith))

near_apart : (m n r : ℕ) → IsNearCircle (pos (m * m)) (pos (n * n)) (pos r) → (m ≤ n + r) × (n ≤ m + r)
near_apart m n r it = grind (arith, by_sum, ints, cases_lt, between_is, roots_apart)

near_by_distance : (m n r : ℕ) → (m ≤ n + r) × (n ≤ m + r) → IsNearCircle (pos (m * m)) (pos (n * n)) (pos r)
near_by_distance m n r h =
    elim (cases_lt (m * m + n * n) (r * r)) [
      | inl less ↦ inl (omega (arith, ints))
      | inr room ↦ inr ((between_is m n r room).1 (both_near m n r h.0 h.1))
    ]

pub circle_distance : CircleDistanceLaw
circle_distance m n r = (near_apart m n r, near_by_distance m n r)
