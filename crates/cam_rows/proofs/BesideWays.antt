-- Places in a bar, by how far they are along its way from either end, and across it.
use Rattle.std.proofs.Common.{rules, ◌≡◌, ◌+◌, ◌*◌, ◌^◌, ◌<◌, ◌≤◌, ◌↔◌, ℕ, ℤ, pos, ◌+ℤ◌, ◌-ℤ◌, ◌*ℤ◌, ◌≤ℤ◌, ◌<ℤ◌, arith}
use Rattle.std.specs.Int.RustNames.{unsigned_abs}
use Rattle.std.proofs.lemmas.Int.{ints}
use Rattle.std.proofs.lemmas.Nat.{mul-lt}
use Rattle.cam_units.specs.declared.point.Point.{Point}
use Rattle.cam_units.specs.declared.point.Spot.{Spot}
use Rattle.cam_units.proofs.Ring.{Polynomial, Atom, Sum, Difference, Product, equal}
use Rattle.cam_shapes.specs.declared.bar.Bar.{Bar}
use Rattle.cam_shapes.specs.Bar.{IsInBar}
use Rattle.cam_shapes.specs.Plane.{cross, dot, seen_from, square, way}
use Rattle.cam_shapes.proofs.Widths.{square_is}
use Rattle.cam_rows.specs.Machinery.HalfPlanes.{IsLeft}
use Rattle.cam_rows.specs.Machinery.Beside.{IsInside, IsWithinReach}
use Rattle.cam_rows.proofs.Circling.{below_root}

abbrev twice : ℤ → Polynomial
twice z = Product (Atom (pos 2)) (Atom z)

abbrev gap : ℤ → ℤ → Polynomial
gap z w = Difference (twice z) (twice w)

abbrev seen : ℤ → ℤ → Polynomial
seen z w = Difference (Atom z) (twice w)

-- how far a place lies before the end, by the way back
from_the_end : (p q : Point) (s : Spot)
    → dot (way q p) (seen_from q s) ≡ dot (way p q) (way p q) -ℤ dot (way p q) (seen_from p s)
from_the_end p q s =
    let product : Polynomial → Polynomial → Polynomial → Polynomial → Polynomial =
    λ a b x y. Sum (Product a x) (Product b y) in
    equal
    (product (gap p.x q.x) (gap p.y q.y) (seen s.x q.x) (seen s.y q.y))
    (Difference
    (product (gap q.x p.x) (gap q.y p.y) (gap q.x p.x) (gap q.y p.y))
    (product (gap q.x p.x) (gap q.y p.y) (seen s.x p.x) (seen s.y p.y)))
    (omega arith)

-- what is left of the way back is right of the way
pub from_the_right : (p q : Point) (s : Spot)
    → cross (way q p) (seen_from q s) ≡ pos 0 -ℤ cross (way p q) (seen_from p s)
from_the_right p q s =
    let product : Polynomial → Polynomial → Polynomial → Polynomial → Polynomial =
    λ a b x y. Difference (Product a y) (Product b x) in
    equal
    (product (gap p.x q.x) (gap p.y q.y) (seen s.x q.x) (seen s.y q.y))
    (Difference (Atom (pos 0)) (product (gap q.x p.x) (gap q.y p.y) (seen s.x p.x) (seen s.y p.y)))
    (omega arith)

below_difference : (d l m : ℤ) → d ≡ l -ℤ m → (pos 0 ≤ℤ d) ↔ (m ≤ℤ l)
below_difference d l m e = ((λ h. omega (arith, ints)), (λ h. omega (arith, ints)))

below_reach : (d z reach : ℤ) → d ≡ pos 0 -ℤ z → (pos 0 ≤ℤ (d +ℤ reach)) ↔ (pos 0 ≤ℤ (reach -ℤ z))
below_reach d z reach e = ((λ h. omega (arith, ints)), (λ h. omega (arith, ints)))

-- a place is ahead of one point, as one looks to the other
abbrev pub IsAhead : Point → Point → Spot → Type 0
IsAhead p q s = pos 0 ≤ℤ dot (way p q) (seen_from p s)

-- before the end of a way, as one looks back from there
before_end : (p q : Point) (s : Spot) → IsAhead q p s ↔ (dot (way p q) (seen_from p s) ≤ℤ dot (way p q) (way p q))
before_end p q s = search (rules, below_difference, from_the_end)

pub between_ends : (s : Spot) (bar : Bar) → IsInBar s bar → IsAhead bar.from bar.to s × IsAhead bar.to bar.from s
between_ends s bar inside = grind (arith, before_end)

-- near the line through both
abbrev pub IsNear : Point → Point → ℤ → Spot → Type 0
IsNear p q reach s = IsWithinReach (cross (way p q) (seen_from p s)) reach

-- what is near a line lies in the half planes of both edges
pub near_line : (p q : Point) (reach : ℤ) (s : Spot) → IsNear p q reach s ↔ (IsLeft p q reach s × IsLeft q p reach s)
near_line p q reach s =
    let right =
    below_reach (cross (way q p) (seen_from q s)) (cross (way p q) (seen_from p s)) reach (from_the_right p q s) in (
      (λ near. (near.left, right.1 near.right)),
      (λ held. record { left = held.0; right = right.0 held.1 }),
    )

-- a bar is near its line, between its ends
pub in_bar : (s : Spot) (bar : Bar) (reach : ℤ)
    → ((z : ℤ) → IsWithinReach z reach
    ↔ IsInside z bar.width.0 (dot (way bar.from bar.to) (way bar.from bar.to)))
    → IsInBar s bar ↔ (IsAhead bar.from bar.to s × IsAhead bar.to bar.from s × IsNear bar.from bar.to reach s)
in_bar s bar reach each = grind (arith, between_ends, before_end)

-- a whole number is at most a root from 0, rounded down, exactly where its square is at most the square
pub inside_by_root : (z w length : ℤ) (root n : ℕ) → pos 0 <ℤ w → pos 0 <ℤ length → pos n ≡ square w *ℤ length
    → root * root ≤ n → n < (root + 1) * (root + 1) → IsWithinReach z (pos root) ↔ IsInside z w length
inside_by_root z w length root n wide long e least greatest =
    let by_root = below_root (unsigned_abs z) n root least greatest in (
      (λ reached.
          let few = by_root.1 (omega (arith, ints, reached.left, reached.right)) in
          record { wide = wide; long = long; near = rw (← e) (omega (arith, ints, square_is z, few)) }),
      (λ inside.
          let near = rw (← e) at inside.near in
          let few = by_root.0 (omega (arith, ints, square_is z, near)) in
          record { left = omega (arith, ints, few); right = omega (arith, ints, few) }),
    )

-- the square of a radius times the square of a length
pub reach_bound : (radius length : ℕ) → radius < 2 ^ 28 → length < 2 ^ 67 → radius * radius * length < 2 ^ 123
reach_bound radius length h k = grind (arith, mul-lt)
