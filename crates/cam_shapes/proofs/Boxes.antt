-- Places outside a box of a contour's points.
use Rattle.std.proofs.Common.{◌≡◌, ℕ, ◌+◌, ◌%◌, ℤ, pos, ◌+ℤ◌, ◌-ℤ◌, ◌*ℤ◌, ◌≤ℤ◌, ◌<ℤ◌, inl, inr, Bool, true, false, List, [], ◌∷◌}
use Rattle.std.proofs.Common.{count_by, refl, ap, ◌∙◌, arith, ◌||◌}
use Rattle.std.specs.Prelude.{All, Any}
use Rattle.std.specs.List.{list_any}
use Rattle.std.proofs.lemmas.Bool.{cases_Bool, false≢true}
use Rattle.std.proofs.lemmas.List.Folds.{Any-from_list_any}
use Rattle.cam_units.specs.Boxes.{IsInBox}
use Rattle.cam_shapes.specs.Cap.{is_in_cap}
use Rattle.std.proofs.lemmas.Int.{ints, by_lt_z}
use Rattle.std.proofs.Math.IntN.{*ℤ_comm}
use Rattle.std.proofs.lemmas.List.Elements.{All-head, All-tail, All-weaker}
use Rattle.cam_units.specs.declared.point.Point.{Point}
use Rattle.cam_units.specs.declared.point.Spot.{Spot}
use Rattle.cam_units.proofs.Ring.{Polynomial, Atom, Sum, Difference, Product, equal}
use Rattle.cam_shapes.specs.declared.segments.Seg.{Seg}
use Rattle.cam_shapes.specs.declared.contour.Contour.{Contour}
use Rattle.cam_shapes.specs.Plane.{place_of}
use Rattle.cam_shapes.specs.Edge.{edge, crosses_ray, is_above, side}
use Rattle.cam_shapes.specs.Contour.{caps_of, edges_from, edges_of, end_of, ContourBoxLaw, HasPointsIn, IsInContour}
use Rattle.cam_shapes.specs.Sides.{differ}
use Rattle.cam_shapes.proofs.Crossings.{not_under, product_above, product_least, under}
use Rattle.cam_shapes.proofs.Parity.{count_by-cons, one_if}

one_before : (b g h : Bool) (k m : ℕ) → k ≡ one_if b + m → m % 2 ≡ one_if (differ g h)
    → k % 2 ≡ one_if (differ b (differ g h))
one_before b g h k m e f = grind arith

one_last : (b : Bool) (k : ℕ) → k ≡ one_if b + 0 → k % 2 ≡ one_if b
one_last b k e = grind arith

joined : (a b c : Bool) → differ (differ a b) (differ b c) ≡ differ a c
joined a b c = grind arith

alike : (b : Bool) → differ b b ≡ false
alike b = grind arith

-- a test that tells both ends of each edge apart where the edge crosses the ray
abbrev pub Tells : Spot → (Point → Type 0) → (Point → Bool) → Type 0
Tells s P g = (p q : Point) → P p → P q → crosses_ray s (edge p q) ≡ differ (g p) (g q)

round : (s : Spot) (P : Point → Type 0) (g : Point → Bool) → Tells s P g
    → (start here : Point) (segs : List Seg) → P start → P here → All (λ seg. P (end_of seg)) segs
    → count_by (crosses_ray s) (edges_from start here segs) % 2 ≡ one_if (differ (g here) (g start))
round s P g tells start here [] at_start at_here ends = grind (arith, one_last, count_by-cons, one_if)
round s P g tells start here (seg ∷ segs) at_start at_here ends =
    let next = end_of seg in
    let at_next : P next = All-head (λ x. P (end_of x)) seg segs ends in
    let rest = round s P g tells start next segs at_start at_next (All-tail (λ x. P (end_of x)) seg segs ends) in
    one_before (crosses_ray s (edge here next)) (g next) (g start)
    (count_by (crosses_ray s) (edge here next ∷ edges_from start next segs))
    (count_by (crosses_ray s) (edges_from start next segs))
    (count_by-cons (crosses_ray s) (edge here next) (edges_from start next segs)) rest
    ∙ ap (λ b. one_if (differ b (differ (g next) (g start)))) (tells here next at_here at_next)
    ∙ ap (λ b. one_if b) (joined (g here) (g next) (g start))

-- an even number of edges cross the ray
pub even : (s : Spot) (P : Point → Type 0) (g : Point → Bool) → Tells s P g
    → (c : Contour) → P c.start → All (λ seg. P (end_of seg)) c.segs → count_by (crosses_ray s) (edges_of c) % 2 ≡ 0
even s P g tells c at_start ends =
    round s P g tells c.start c.start c.segs at_start at_start ends ∙ ap (λ b. one_if b) (alike (g c.start))

-- how far b is from a
abbrev gap : ℤ → ℤ → ℤ
gap a b = b -ℤ a

-- the side as a sum over both ends, of which each product is positive somewhere
abbrev over_ends : ℤ → ℤ → ℤ → ℤ → ℤ
over_ends u w v z = u *ℤ w +ℤ v *ℤ z

abbrev pub twice : ℤ → ℤ
twice z = pos 2 *ℤ z

abbrev two : ℤ → Polynomial
two z = Product (Atom (pos 2)) (Atom z)

abbrev side_of : Spot → Point → Point → Polynomial
side_of s p q =
    Difference
    (Product (Difference (two q.x) (two p.x)) (Difference (Atom s.y) (two p.y)))
    (Product (Difference (two q.y) (two p.y)) (Difference (Atom s.x) (two p.x)))

abbrev sum_of : Polynomial → Polynomial → Polynomial → Polynomial → Polynomial
sum_of u w v z = Sum (Product u w) (Product v z)

left_rising_is : (s : Spot) (p q : Point)
    → side s (edge p q) ≡ over_ends (gap s.x (twice p.x)) (gap s.y (twice q.y)) (gap s.x (twice q.x))
    (gap (twice p.y) s.y)
left_rising_is s p q =
    equal (side_of s p q)
    (sum_of (Difference (two p.x) (Atom s.x)) (Difference (two q.y) (Atom s.y)) (Difference (two q.x) (Atom s.x))
    (Difference (Atom s.y) (two p.y)))
    (omega arith)

left_falling_is : (s : Spot) (p q : Point)
    → side s (edge p q) ≡ pos 0 -ℤ over_ends (gap s.x (twice p.x)) (gap (twice q.y) s.y) (gap s.x (twice q.x))
    (gap s.y (twice p.y))
left_falling_is s p q =
    equal (side_of s p q)
    (Difference (Atom (pos 0))
    (sum_of (Difference (two p.x) (Atom s.x)) (Difference (Atom s.y) (two q.y)) (Difference (two q.x) (Atom s.x))
    (Difference (two p.y) (Atom s.y))))
    (omega arith)

right_rising_is : (s : Spot) (p q : Point)
    → side s (edge p q) ≡ pos 0 -ℤ over_ends (gap (twice q.x) s.x) (gap (twice p.y) s.y) (gap (twice p.x) s.x)
    (gap s.y (twice q.y))
right_rising_is s p q =
    equal (side_of s p q)
    (Difference (Atom (pos 0))
    (sum_of (Difference (Atom s.x) (two q.x)) (Difference (Atom s.y) (two p.y)) (Difference (Atom s.x) (two p.x))
    (Difference (two q.y) (Atom s.y))))
    (omega arith)

right_falling_is : (s : Spot) (p q : Point)
    → side s (edge p q) ≡ over_ends (gap (twice p.x) s.x) (gap (twice q.y) s.y) (gap (twice q.x) s.x)
    (gap s.y (twice p.y))
right_falling_is s p q =
    equal (side_of s p q)
    (sum_of (Difference (Atom s.x) (two p.x)) (Difference (Atom s.y) (two q.y)) (Difference (Atom s.x) (two q.x))
    (Difference (two p.y) (Atom s.y)))
    (omega arith)

above : (a b : ℤ) → a <ℤ b → pos 0 <ℤ gap a b
above a b h = omega (arith, ints)

from : (a b : ℤ) → a ≤ℤ b → pos 0 ≤ℤ gap a b
from a b h = omega (arith, ints)

sums : (m n : ℤ) → pos 0 <ℤ m → pos 0 ≤ℤ n → pos 0 <ℤ (m +ℤ n)
sums m n h k = omega (arith, ints)

sums_turned : (m n : ℤ) → pos 0 ≤ℤ m → pos 0 <ℤ n → pos 0 <ℤ (m +ℤ n)
sums_turned m n h k = omega (arith, ints)

least_turned : (w r : ℤ) → pos 0 <ℤ w → pos 0 ≤ℤ r → pos 0 ≤ℤ (w *ℤ r)
least_turned w r h k = rw (*ℤ_comm w r) (product_least r w k h)

first_above : (u w v z : ℤ) → pos 0 <ℤ u → pos 0 <ℤ w → pos 0 <ℤ v → pos 0 ≤ℤ z → pos 0 <ℤ over_ends u w v z
first_above u w v z a b c d = sums (u *ℤ w) (v *ℤ z) (product_above u w a b) (least_turned v z c d)

second_above : (u w v z : ℤ) → pos 0 <ℤ u → pos 0 ≤ℤ w → pos 0 <ℤ v → pos 0 <ℤ z → pos 0 <ℤ over_ends u w v z
second_above u w v z a b c d = sums_turned (u *ℤ w) (v *ℤ z) (least_turned u w a b) (product_above v z c d)

product_natural : (w r : ℤ) → pos 0 ≤ℤ w → pos 0 ≤ℤ r → pos 0 ≤ℤ (w *ℤ r)
product_natural w r p q = grind (arith, ints)

sums_least : (m n : ℤ) → pos 0 ≤ℤ m → pos 0 ≤ℤ n → pos 0 ≤ℤ (m +ℤ n)
sums_least m n h k = omega (arith, ints)

none_below : (u w v z : ℤ) → pos 0 ≤ℤ u → pos 0 ≤ℤ w → pos 0 ≤ℤ v → pos 0 <ℤ z → pos 0 ≤ℤ over_ends u w v z
none_below u w v z a b c d = sums_least (u *ℤ w) (v *ℤ z) (product_natural u w a b) (product_least v z c d)

opposite_most : (d n : ℤ) → d ≡ pos 0 -ℤ n → pos 0 ≤ℤ n → d ≤ℤ pos 0
opposite_most d n e h = omega (arith, ints)

opposite_below : (d n : ℤ) → d ≡ pos 0 -ℤ n → pos 0 <ℤ n → d <ℤ pos 0
opposite_below d n e h = omega (arith, ints)

less_at_most : (a b : ℤ) → a <ℤ b → a ≤ℤ b
less_at_most a b h = omega (arith, ints)

-- the place is on one side of a point
abbrev pub IsLeftOf : Spot → Point → Type 0
IsLeftOf s p = s.x <ℤ twice p.x

-- right of it, or at its x
abbrev pub IsRightOf : Spot → Point → Type 0
IsRightOf s p = twice p.x ≤ℤ s.x

abbrev IsBelow : Spot → Point → Type 0
IsBelow s p = s.y <ℤ twice p.y

abbrev IsOver : Spot → Point → Type 0
IsOver s p = twice p.y ≤ℤ s.y

tells_below : (s : Spot) → Tells s (IsBelow s) (λ _. true)
tells_below s p q at_p at_q = rw (under s.y (twice p.y) at_p, under s.y (twice q.y) at_q) refl

tells_over : (s : Spot) → Tells s (IsOver s) (λ _. false)
tells_over s p q at_p at_q = rw (not_under s.y (twice p.y) at_p, not_under s.y (twice q.y) at_q) refl

pub tells_left : (s : Spot) → Tells s (IsLeftOf s) (λ p. is_above p s)
tells_left s p q at_p at_q =
    by_lt_z s.y (twice p.y)
    (λ a. by_lt_z s.y (twice q.y)
    (λ b. rw (under s.y (twice p.y) a, under s.y (twice q.y) b) refl)
    (λ b. let sum = second_above (gap s.x (twice p.x)) (gap (twice q.y) s.y) (gap s.x (twice q.x)) (gap s.y (twice p.y))
    (above s.x (twice p.x) at_p) (from (twice q.y) s.y b) (above s.x (twice q.x) at_q) (above s.y (twice p.y) a) in
    let below = opposite_below (side s (edge p q)) _ (left_falling_is s p q) sum in
    rw (under s.y (twice p.y) a, not_under s.y (twice q.y) b) (under (side s (edge p q)) (pos 0) below)))
    (λ a. by_lt_z s.y (twice q.y)
    (λ b. let sum = first_above (gap s.x (twice p.x)) (gap s.y (twice q.y)) (gap s.x (twice q.x)) (gap (twice p.y) s.y)
    (above s.x (twice p.x) at_p) (above s.y (twice q.y) b) (above s.x (twice q.x) at_q) (from (twice p.y) s.y a) in
    let over : pos 0 <ℤ side s (edge p q) = rw (left_rising_is s p q) sum in
    rw (not_under s.y (twice p.y) a, under s.y (twice q.y) b) (under (pos 0) (side s (edge p q)) over))
    (λ b. rw (not_under s.y (twice p.y) a, not_under s.y (twice q.y) b) refl))

pub tells_right : (s : Spot) → Tells s (IsRightOf s) (λ _. false)
tells_right s p q at_p at_q =
    by_lt_z s.y (twice p.y)
    (λ a. by_lt_z s.y (twice q.y)
    (λ b. rw (under s.y (twice p.y) a, under s.y (twice q.y) b) refl)
    (λ b. let sum = none_below (gap (twice p.x) s.x) (gap (twice q.y) s.y) (gap (twice q.x) s.x) (gap s.y (twice p.y))
    (from (twice p.x) s.x at_p) (from (twice q.y) s.y b) (from (twice q.x) s.x at_q) (above s.y (twice p.y) a) in
    let over : pos 0 ≤ℤ side s (edge p q) = rw (right_falling_is s p q) sum in
    rw (under s.y (twice p.y) a, not_under s.y (twice q.y) b) (not_under (side s (edge p q)) (pos 0) over)))
    (λ a. by_lt_z s.y (twice q.y)
    (λ b. let sum = none_below (gap (twice q.x) s.x) (gap (twice p.y) s.y) (gap (twice p.x) s.x) (gap s.y (twice q.y))
    (from (twice q.x) s.x at_q) (from (twice p.y) s.y a) (from (twice p.x) s.x at_p) (above s.y (twice q.y) b) in
    let below = opposite_most (side s (edge p q)) _ (right_rising_is s p q) sum in
    rw (not_under s.y (twice p.y) a, under s.y (twice q.y) b) (not_under (pos 0) (side s (edge p q)) below))
    (λ b. rw (not_under s.y (twice p.y) a, not_under s.y (twice q.y) b) refl))

none_before : (b r : Bool) (k m : ℕ) → (b || r) ≡ false → k ≡ one_if b + m → (r ≡ false → m ≡ 0) → k ≡ 0
none_before b r k m e f g = grind (arith, false≢true)

none_counted : {X : Type 0} (p : X → Bool) (xs : List X) → list_any p xs ≡ false → count_by p xs ≡ 0
none_counted p [] e = refl
none_counted p (x ∷ xs) e = grind (arith, none_before, count_by-cons, none_counted p xs)

some_counted : {X : Type 0} (p : X → Bool) (xs : List X) → count_by p xs % 2 ≡ 1 → Any (λ x. p x ≡ true) xs
some_counted p xs odd = grind (arith, cases_Bool, Any-from_list_any, none_counted)

even_and_odd : (m n : ℕ) → m % 2 ≡ 0 → (m + n) % 2 ≡ 1 → n % 2 ≡ 1
even_and_odd m n e f = omega arith

-- where an even number of edges cross the ray, a cap holds the place
in_some_cap : (s : Spot) (P : Point → Type 0) (g : Point → Bool) → Tells s P g → (low high : Spot) (c : Contour)
    → ((p : Point) → IsInBox low high (place_of p) → P p) → HasPointsIn low high c → IsInContour s c
    → Any (λ cap. is_in_cap s cap ≡ true) (caps_of c)
in_some_cap s P g tells low high c apart points inside =
    let ends = All-weaker (λ seg. IsInBox low high (place_of (end_of seg))) (λ seg. P (end_of seg))
    (λ seg. apart (end_of seg)) c.segs points.ends in
    some_counted (is_in_cap s) (caps_of c)
    (even_and_odd (count_by (crosses_ray s) (edges_of c)) (count_by (is_in_cap s) (caps_of c))
    (even s P g tells c (apart c.start points.start) ends) inside)

before : (a b c : ℤ) → a <ℤ b → b ≤ℤ c → a <ℤ c
before a b c h k = omega (arith, ints)

behind : (a b c : ℤ) → a ≤ℤ b → b <ℤ c → a <ℤ c
behind a b c h k = omega (arith, ints)

pub contour_box : ContourBoxLaw
contour_box s c low high points inside =
    by_lt_z s.x low.x
    (λ left. inr (in_some_cap s (IsLeftOf s) (λ p. is_above p s) (tells_left s) low high c
    (λ p h. before s.x low.x (twice p.x) left h.left) points inside))
    (λ l. by_lt_z high.x s.x
    (λ right. inr (in_some_cap s (IsRightOf s) (λ _. false) (tells_right s) low high c
    (λ p h. less_at_most (twice p.x) s.x (behind (twice p.x) high.x s.x h.right right)) points inside))
    (λ r. by_lt_z s.y low.y
    (λ below. inr (in_some_cap s (IsBelow s) (λ _. true) (tells_below s) low high c
    (λ p h. before s.y low.y (twice p.y) below h.below) points inside))
    (λ b. by_lt_z high.y s.y
    (λ over. inr (in_some_cap s (IsOver s) (λ _. false) (tells_over s) low high c
    (λ p h. less_at_most (twice p.y) s.y (behind (twice p.y) high.y s.y h.above over)) points inside))
    (λ a. inl (record { left = l; right = r; below = b; above = a })))))
