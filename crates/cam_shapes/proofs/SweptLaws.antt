-- Strokes of rectangles: the rectangles at their ends, their boxes, and lines along an axis.
use Rattle.std.proofs.Common.{rules, ◌≡◌, ℕ, ◌+◌, ◌*◌, ◌≤◌, ℤ, pos, ◌+ℤ◌, ◌-ℤ◌, ◌*ℤ◌, ◌≤ℤ◌, ◌<ℤ◌, ap, inl, inr, arith}
use Rattle.std.specs.Int.{int_max, int_min}
use Rattle.std.specs.Int.RustNames.{unsigned_abs}
use Rattle.std.proofs.lemmas.Int.{clamps, ints, unsigned_abs-mul}
use Rattle.std.proofs.lemmas.Nat.{mul-le}
use Rattle.cam_units.specs.declared.point.Point.{Point}
use Rattle.cam_units.specs.declared.point.Spot.{Spot}
use Rattle.cam_units.specs.Boxes.{IsInBox}
use Rattle.cam_units.proofs.Ring.{Polynomial, Atom, Difference, Product, equal}
use Rattle.cam_shapes.specs.declared.vector.Vector.{Vector}
use Rattle.cam_shapes.specs.declared.swept.Swept.{Swept}
use Rattle.cam_shapes.specs.Box.{IsInRectangle}
use Rattle.cam_shapes.specs.Plane.{cross, seen_from, way, IsBetween}
use Rattle.cam_shapes.specs.Swept.{high_corner, low_corner, rectangle_at, IsAlongAxis, IsInSwept, IsNearWay}
use Rattle.cam_shapes.specs.Swept.{SweptAxisLaw, SweptBoxLaw, SweptEndsLaw}
use Rattle.cam_shapes.proofs.Strokes.{natural_or_not}

-- a difference of products by the products of sizes
difference_parts : (p q : ℤ) → unsigned_abs (p -ℤ q) ≤ unsigned_abs p + unsigned_abs q
difference_parts p q = omega (arith, ints)

pub cross_parts : (a v : Vector)
    → unsigned_abs (cross a v) ≤ unsigned_abs a.x * unsigned_abs v.y + unsigned_abs a.y * unsigned_abs v.x
cross_parts a v = grind (arith, difference_parts, unsigned_abs-mul)

both_short : (i j k l m n : ℕ) → j ≤ n → l ≤ m → i * j + k * l ≤ m * k + n * i
both_short i j k l m n p q = omega (arith, mul-le i j i n (omega arith) p, mul-le k l k m (omega arith) q)

first_level : (i j k l m n : ℕ) → k ≡ 0 → j ≤ n → i * j + k * l ≤ m * k + n * i
first_level i j k l m n e p = grind (arith, mul-le)

second_level : (i j k l m n : ℕ) → i ≡ 0 → l ≤ m → i * j + k * l ≤ m * k + n * i
second_level i j k l m n e q = grind (arith, mul-le)

-- a place is near a way by its parts
by_parts : (a v : Vector) (m n : ℕ)
    → unsigned_abs a.x * unsigned_abs v.y + unsigned_abs a.y * unsigned_abs v.x
    ≤ m * unsigned_abs a.y + n * unsigned_abs a.x
    → IsNearWay a v (pos m) (pos n)
by_parts a v m n h = grind (arith, cross_parts, ints)

short : (z : ℤ) (n : ℕ) → pos (unsigned_abs z) ≤ℤ pos n → unsigned_abs z ≤ n
short z n h = omega (arith, ints)

near_corner : (a v : Vector) (w h : ℤ) → pos 0 <ℤ w → pos 0 <ℤ h → IsBetween v w h → IsNearWay a v w h
near_corner a v w h wide high between = grind (arith, natural_or_not, by_parts, both_short, short)

near_level : (a v : Vector) (w h : ℤ) → pos 0 <ℤ w → pos 0 <ℤ h → a.y ≡ pos 0 → pos (unsigned_abs v.y) ≤ℤ h
    → IsNearWay a v w h
near_level a v w h wide high level most =
    let across = natural_or_not w wide in
    let along = natural_or_not h high in
    let inside = rw along.1 at most in
    rw (across.1, along.1)
    (by_parts a v across.0 along.0
    (first_level (unsigned_abs a.x) (unsigned_abs v.y) (unsigned_abs a.y) (unsigned_abs v.x) across.0 along.0
    (ap (λ z. unsigned_abs z) level) (short v.y along.0 inside)))

near_upright : (a v : Vector) (w h : ℤ) → pos 0 <ℤ w → pos 0 <ℤ h → a.x ≡ pos 0 → pos (unsigned_abs v.x) ≤ℤ w
    → IsNearWay a v w h
near_upright a v w h wide high upright most = grind (arith, natural_or_not, by_parts, second_level, short)

-- seen from the end of a way a place is as far from its line
abbrev two : ℤ → Polynomial
two z = Product (Atom (pos 2)) (Atom z)

abbrev part : ℤ → ℤ → ℤ → ℤ → ℤ → ℤ → Polynomial
part px py qx qy x y =
    Difference
    (Product (Difference (two qx) (two px)) (Difference (Atom y) (two py)))
    (Product (Difference (two qy) (two py)) (Difference (Atom x) (two px)))

abbrev part_from_end : ℤ → ℤ → ℤ → ℤ → ℤ → ℤ → Polynomial
part_from_end px py qx qy x y =
    Difference
    (Product (Difference (two qx) (two px)) (Difference (Atom y) (two qy)))
    (Product (Difference (two qy) (two py)) (Difference (Atom x) (two qx)))

pub cross_from_end : (p q : Point) (s : Spot) → cross (way p q) (seen_from p s) ≡ cross (way p q) (seen_from q s)
cross_from_end p q s = equal (part p.x p.y q.x q.y s.x s.y) (part_from_end p.x p.y q.x q.y s.x s.y) (omega arith)

-- ---- along one axis, of ends p and q and a side w

low_by_first : (p q w x : ℤ) → pos (unsigned_abs (x -ℤ p)) ≤ℤ w → (int_min p q -ℤ w) ≤ℤ x
low_by_first p q w x h = omega (arith, ints, clamps)

high_by_first : (p q w x : ℤ) → pos (unsigned_abs (x -ℤ p)) ≤ℤ w → x ≤ℤ (int_max p q +ℤ w)
high_by_first p q w x h = omega (arith, ints, clamps)

low_by_second : (p q w x : ℤ) → pos (unsigned_abs (x -ℤ q)) ≤ℤ w → (int_min p q -ℤ w) ≤ℤ x
low_by_second p q w x h = omega (arith, ints, clamps)

high_by_second : (p q w x : ℤ) → pos (unsigned_abs (x -ℤ q)) ≤ℤ w → x ≤ℤ (int_max p q +ℤ w)
high_by_second p q w x h = omega (arith, ints, clamps)

beside_one : (p q w x : ℤ) → p ≡ q → (int_min p q -ℤ w) ≤ℤ x → x ≤ℤ (int_max p q +ℤ w) → pos (unsigned_abs (x -ℤ p)) ≤ℤ w
beside_one p q w x e h k = omega (arith, ints, clamps)

level_way : (p q : ℤ) → p ≡ q → (pos 2 *ℤ q -ℤ pos 2 *ℤ p) ≡ pos 0
level_way p q e = omega (arith, ints)

-- ---- the laws

pub at_start : (s : Spot) (r : Swept) → IsInRectangle s (rectangle_at r.from r) → IsInSwept s r
at_start s r inside = search (rules, low_by_first, high_by_first, near_corner)

pub at_finish : (s : Spot) (r : Swept) → IsInRectangle s (rectangle_at r.to r) → IsInSwept s r
at_finish s r inside = search (rules, near_corner, low_by_second, high_by_second, cross_from_end)

-- where the ends have one x, or one y
beside_x : (s : Spot) (r : Swept) → r.from.x ≡ r.to.x → IsInBox (low_corner r) (high_corner r) s
    → pos (unsigned_abs (seen_from r.from s).x) ≤ℤ r.width.0
beside_x s r e box = grind (arith, beside_one)

beside_y : (s : Spot) (r : Swept) → r.from.y ≡ r.to.y → IsInBox (low_corner r) (high_corner r) s
    → pos (unsigned_abs (seen_from r.from s).y) ≤ℤ r.height.0
beside_y s r e box = grind (arith, beside_one)

pub ends : SweptEndsLaw
ends = record {
  start = at_start;
  finish = at_finish;
  point = λ s r e. (
    (λ inside. record {
      wide = inside.wide;
      high = inside.high;
      between = record {
        across = beside_x s r (ap (λ p. p.x) e) inside.boxed;
        along = beside_y s r (ap (λ p. p.y) e) inside.boxed;
      };
    }),
    (λ inside. at_start s r inside),
  );
}

near_axis : (s : Spot) (r : Swept) → pos 0 <ℤ r.width.0 → pos 0 <ℤ r.height.0 → IsAlongAxis r
    → IsInBox (low_corner r) (high_corner r) s → IsNearWay (way r.from r.to) (seen_from r.from s) r.width.0 r.height.0
near_axis s r wide high (inl upright) box = search (rules, near_upright, level_way, beside_x)
near_axis s r wide high (inr level) box = search (rules, near_level, level_way, beside_y)

pub axis : SweptAxisLaw
axis s r wide high along = grind (arith, near_axis)

-- ---- boxes by their corners

abbrev left_below : Point → Swept → Spot
left_below p r = record { x = pos 2 *ℤ p.x -ℤ r.width.0; y = pos 2 *ℤ p.y -ℤ r.height.0 }

abbrev right_above : Point → Swept → Spot
right_above p r = record { x = pos 2 *ℤ p.x +ℤ r.width.0; y = pos 2 *ℤ p.y +ℤ r.height.0 }

corner_down : (p w : ℤ) → pos 0 <ℤ w → pos (unsigned_abs (p -ℤ w -ℤ p)) ≤ℤ w
corner_down p w h = omega (arith, ints)

corner_up : (p w : ℤ) → pos 0 <ℤ w → pos (unsigned_abs (p +ℤ w -ℤ p)) ≤ℤ w
corner_up p w h = omega (arith, ints)

has_left_below : (p : Point) (r : Swept) → pos 0 <ℤ r.width.0 → pos 0 <ℤ r.height.0
    → IsInRectangle (left_below p r) (rectangle_at p r)
has_left_below p r wide high = grind (arith, corner_down)

has_right_above : (p : Point) (r : Swept) → pos 0 <ℤ r.width.0 → pos 0 <ℤ r.height.0
    → IsInRectangle (right_above p r) (rectangle_at p r)
has_right_above p r wide high = grind (arith, corner_up)

low_of_both : (l p q w x : ℤ) → l ≤ℤ (p -ℤ w) → l ≤ℤ (q -ℤ w) → (int_min p q -ℤ w) ≤ℤ x → l ≤ℤ x
low_of_both l p q w x f g h = omega (arith, ints, clamps)

high_of_both : (u p q w x : ℤ) → (p +ℤ w) ≤ℤ u → (q +ℤ w) ≤ℤ u → x ≤ℤ (int_max p q +ℤ w) → x ≤ℤ u
high_of_both u p q w x f g h = omega (arith, ints, clamps)

pub box : SweptBoxLaw
box low high r from to s inside =
    let low_from = from (left_below r.from r) (has_left_below r.from r inside.wide inside.high) in
    let low_to = to (left_below r.to r) (has_left_below r.to r inside.wide inside.high) in
    let high_from = from (right_above r.from r) (has_right_above r.from r inside.wide inside.high) in
    let high_to = to (right_above r.to r) (has_right_above r.to r inside.wide inside.high) in
    let boxed = inside.boxed in record {
      left = low_of_both low.x (pos 2 *ℤ r.from.x) (pos 2 *ℤ r.to.x) r.width.0 s.x low_from.left low_to.left boxed.left;
      right = high_of_both high.x (pos 2 *ℤ r.from.x) (pos 2 *ℤ r.to.x) r.width.0 s.x high_from.right high_to.right
          boxed.right;
      below = low_of_both low.y (pos 2 *ℤ r.from.y) (pos 2 *ℤ r.to.y) r.height.0 s.y low_from.below low_to.below
          boxed.below;
      above = high_of_both high.y (pos 2 *ℤ r.from.y) (pos 2 *ℤ r.to.y) r.height.0 s.y high_from.above high_to.above
          boxed.above;
    }
