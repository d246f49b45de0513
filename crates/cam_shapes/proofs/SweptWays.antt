-- Strokes of rectangles: all that the rectangle passes on its way, and their turns.
use Rattle.std.proofs.Common.{rules}
use Rattle.std.proofs.Common.{◌≡◌, ◌↔◌, ◌≤◌, ℕ, ◌+◌, ◌*◌, ℤ, pos, ◌+ℤ◌, ◌-ℤ◌, ◌*ℤ◌, ◌≤ℤ◌, ◌<ℤ◌, refl, ap, subst, sym, ◌∙◌, arith, ◌<◌}
use Rattle.std.specs.Int.{int_max, int_min}
use Rattle.std.specs.Int.RustNames.{unsigned_abs}
use Rattle.std.proofs.lemmas.Int.{by_lt_z, clamps, ints, unsigned_abs-mul}
use Rattle.cam_units.specs.declared.point.Spot.{Spot}
use Rattle.cam_units.specs.declared.turn.Turn.{Turn}
use Rattle.cam_units.specs.declared.turn.Turn.TheVariants.{R0, R90, R180, R270, M0, M90, M180, M270}
use Rattle.cam_units.proofs.Ring.{Polynomial, Atom, Sum, Difference, Product, equal}
use Rattle.cam_shapes.specs.declared.vector.Vector.{Vector}
use Rattle.cam_shapes.specs.declared.swept.Swept.{Swept}
use Rattle.cam_shapes.specs.Box.{swapped}
use Rattle.cam_shapes.specs.Plane.{cross, seen_from, way}
use Rattle.cam_shapes.specs.Swept.{corner_reach, turned_place, turned_swept, IsInSwept, IsNearWay, IsPassed, SweptTurnLaw, SweptWayLaw}
use Rattle.cam_shapes.proofs.Vectors.{same_vector}
use Rattle.std.proofs.lemmas.Bool.{cases_lt}
use Rattle.std.proofs.lemmas.Nat.{mul-le}
use Rattle.cam_shapes.proofs.Strokes.{natural_or_not}
use Rattle.cam_shapes.proofs.SweptLaws.{cross_parts}
use Rattle.cam_shapes.proofs.Reaches.{reach}

-- ---- a place as it is seen from the start of a way

abbrev less : ℤ → ℤ
less z = pos 0 -ℤ z

-- between the ends of a leg of a way, widened
pub record IsSpanned (d z w : ℤ) : Type 0 where
  pub low : (int_min (pos 0) d -ℤ w) ≤ℤ z
  pub high : z ≤ℤ (int_max (pos 0) d +ℤ w)

pub record IsOver (a v : Vector) (w h : ℤ) : Type 0 where
  pub across : IsSpanned a.x v.x w
  pub up : IsSpanned a.y v.y h
  pub near : IsNearWay a v w h

seen_low : (p q w x : ℤ) → (int_min (pos 2 *ℤ p) (pos 2 *ℤ q) -ℤ w) ≤ℤ x
    → (int_min (pos 0) (pos 2 *ℤ q -ℤ pos 2 *ℤ p) -ℤ w) ≤ℤ (x -ℤ pos 2 *ℤ p)
seen_low p q w x h = omega (arith, ints, clamps)

seen_high : (p q w x : ℤ) → x ≤ℤ (int_max (pos 2 *ℤ p) (pos 2 *ℤ q) +ℤ w)
    → (x -ℤ pos 2 *ℤ p) ≤ℤ (int_max (pos 0) (pos 2 *ℤ q -ℤ pos 2 *ℤ p) +ℤ w)
seen_high p q w x h = omega (arith, ints, clamps)

stands_low : (p q w x : ℤ) → (int_min (pos 0) (pos 2 *ℤ q -ℤ pos 2 *ℤ p) -ℤ w) ≤ℤ (x -ℤ pos 2 *ℤ p)
    → (int_min (pos 2 *ℤ p) (pos 2 *ℤ q) -ℤ w) ≤ℤ x
stands_low p q w x h = omega (arith, ints, clamps)

stands_high : (p q w x : ℤ) → (x -ℤ pos 2 *ℤ p) ≤ℤ (int_max (pos 0) (pos 2 *ℤ q -ℤ pos 2 *ℤ p) +ℤ w)
    → x ≤ℤ (int_max (pos 2 *ℤ p) (pos 2 *ℤ q) +ℤ w)
stands_high p q w x h = omega (arith, ints, clamps)

over : (s : Spot) (r : Swept) → IsInSwept s r → IsOver (way r.from r.to) (seen_from r.from s) r.width.0 r.height.0
over s r h = grind (arith, seen_low, seen_high)

swept : (s : Spot) (r : Swept) → pos 0 <ℤ r.width.0 → pos 0 <ℤ r.height.0
    → IsOver (way r.from r.to) (seen_from r.from s) r.width.0 r.height.0 → IsInSwept s r
swept s r wide high o = grind (arith, stands_low, stands_high)

-- ---- mirrors, and axes that are changed for one another

abbrev mirror : Vector → Vector
mirror v = record { x = less v.x; y = v.y }

mirror_low : (d z w : ℤ) → z ≤ℤ (int_max (pos 0) d +ℤ w) → (int_min (pos 0) (less d) -ℤ w) ≤ℤ less z
mirror_low d z w h = omega (arith, ints, clamps)

mirror_high : (d z w : ℤ) → (int_min (pos 0) d -ℤ w) ≤ℤ z → less z ≤ℤ (int_max (pos 0) (less d) +ℤ w)
mirror_high d z w h = omega (arith, ints, clamps)

cross_mirrored : (a v : Vector) → cross (mirror a) (mirror v) ≡ less (cross a v)
cross_mirrored a v =
    equal
    (Difference (Product (Difference (Atom (pos 0)) (Atom a.x)) (Atom v.y))
    (Product (Atom a.y) (Difference (Atom (pos 0)) (Atom v.x))))
    (Difference (Atom (pos 0)) (Difference (Product (Atom a.x) (Atom v.y)) (Product (Atom a.y) (Atom v.x))))
    (omega arith)

cross_swapped : (a v : Vector) → cross (swapped a) (swapped v) ≡ less (cross a v)
cross_swapped a v =
    equal
    (Difference (Product (Atom a.y) (Atom v.x)) (Product (Atom a.x) (Atom v.y)))
    (Difference (Atom (pos 0)) (Difference (Product (Atom a.x) (Atom v.y)) (Product (Atom a.y) (Atom v.x))))
    (omega arith)

same_size : (z : ℤ) → unsigned_abs (less z) ≡ unsigned_abs z
same_size z = omega (arith, ints)

sum_exchanged : (a b : ℤ) → a +ℤ b ≡ b +ℤ a
sum_exchanged a b = omega (arith, ints)

near_mirrored : (a v : Vector) (w h : ℤ) → IsNearWay a v w h → IsNearWay (mirror a) (mirror v) w h
near_mirrored a v w h near = grind (arith, cross_mirrored, same_size)

near_swapped : (a v : Vector) (w h : ℤ) → IsNearWay a v w h → IsNearWay (swapped a) (swapped v) h w
near_swapped a v w h near = grind (arith, cross_swapped, same_size, sum_exchanged)

over_mirrored : (a v : Vector) (w h : ℤ) → IsOver a v w h → IsOver (mirror a) (mirror v) w h
over_mirrored a v w h o = grind (arith, mirror_low, mirror_high, near_mirrored)

over_swapped : (a v : Vector) (w h : ℤ) → IsOver a v w h → IsOver (swapped a) (swapped v) h w
over_swapped a v w h o = record { across = o.up; up = o.across; near = near_swapped a v w h o.near }

twice_less : (z : ℤ) → less (less z) ≡ z
twice_less z = omega (arith, ints)

mirror_again : (v : Vector) → mirror (mirror v) ≡ v
mirror_again v = same_vector (mirror (mirror v)) v (twice_less v.x) refl

-- ---- the eight turns

mirrored : (a v : Vector) (w h : ℤ) → IsOver a v w h ↔ IsOver (mirror a) (mirror v) w h
mirrored a v w h = (
  over_mirrored a v w h,
  (λ o. subst (λ (b : Vector). IsOver b v w h) (mirror_again a)
      (subst (λ (u : Vector). IsOver (mirror (mirror a)) u w h) (mirror_again v) (over_mirrored (mirror a) (mirror v) w h o))),
)

exchanged : (a v : Vector) (w h : ℤ) → IsOver a v w h ↔ IsOver (swapped a) (swapped v) h w
exchanged a v w h = (over_swapped a v w h, over_swapped (swapped a) (swapped v) h w)

then : {A B C : Type 0} → A ↔ B → B ↔ C → A ↔ C
then f g = ((λ a. g.0 (f.0 a)), (λ c. f.1 (g.1 c)))

alike : (a b v u : Vector) (w h : ℤ) → a ≡ b → v ≡ u → IsOver a v w h ↔ IsOver b u w h
alike a b v u w h e f = grind arith

abbrev turned_over : Turn → Spot → Swept → Type 0
turned_over t s r =
    let u = turned_swept t r in IsOver (way u.from u.to) (seen_from u.from (turned_place t s)) u.width.0 u.height.0

-- the way and the place of a turned stroke
module _ (s : Spot) (r : Swept) where
  abbrev line : Vector
  line = way r.from r.to

  abbrev seen : Vector
  seen = seen_from r.from s

  abbrev wide : ℤ
  wide = r.width.0

  abbrev high : ℤ
  high = r.height.0

  turns : (t : Turn) → IsOver (way r.from r.to) (seen_from r.from s) r.width.0 r.height.0 ↔ turned_over t s r
  turns R0 = alike (way r.from r.to) _ (seen_from r.from s) _ r.width.0 r.height.0
      (same_vector _ _ (omega (arith, ints)) (omega (arith, ints)))
      (same_vector _ _ (omega (arith, ints)) (omega (arith, ints)))
  turns M0 =
      then (mirrored line seen wide high)
      (alike (mirror line) _ (mirror seen) _ wide high
      (same_vector _ _ (omega (arith, ints)) (omega (arith, ints)))
      (same_vector _ _ (omega (arith, ints)) (omega (arith, ints))))
  turns M270 =
      then (exchanged line seen wide high)
      (alike (swapped line) _ (swapped seen) _ high wide
      (same_vector _ _ (omega (arith, ints)) (omega (arith, ints)))
      (same_vector _ _ (omega (arith, ints)) (omega (arith, ints))))
  turns R90 =
      then (exchanged line seen wide high)
      (then (mirrored (swapped line) (swapped seen) high wide)
      (alike (mirror (swapped line)) _ (mirror (swapped seen)) _ high wide
      (same_vector _ _ (omega (arith, ints)) (omega (arith, ints)))
      (same_vector _ _ (omega (arith, ints)) (omega (arith, ints)))))
  turns R270 =
      then (mirrored line seen wide high)
      (then (exchanged (mirror line) (mirror seen) wide high)
      (alike (swapped (mirror line)) _ (swapped (mirror seen)) _ high wide
      (same_vector _ _ (omega (arith, ints)) (omega (arith, ints)))
      (same_vector _ _ (omega (arith, ints)) (omega (arith, ints)))))
  turns M180 =
      then (exchanged line seen wide high)
      (then (mirrored (swapped line) (swapped seen) high wide)
      (then (exchanged (mirror (swapped line)) (mirror (swapped seen)) high wide)
      (alike (swapped (mirror (swapped line))) _ (swapped (mirror (swapped seen))) _ wide high
      (same_vector _ _ (omega (arith, ints)) (omega (arith, ints)))
      (same_vector _ _ (omega (arith, ints)) (omega (arith, ints))))))
  turns M90 =
      then (mirrored line seen wide high)
      (then (exchanged (mirror line) (mirror seen) wide high)
      (then (mirrored (swapped (mirror line)) (swapped (mirror seen)) high wide)
      (alike (mirror (swapped (mirror line))) _ (mirror (swapped (mirror seen))) _ high wide
      (same_vector _ _ (omega (arith, ints)) (omega (arith, ints)))
      (same_vector _ _ (omega (arith, ints)) (omega (arith, ints))))))
  turns R180 =
      then (mirrored line seen wide high)
      (then (exchanged (mirror line) (mirror seen) wide high)
      (then (mirrored (swapped (mirror line)) (swapped (mirror seen)) high wide)
      (then (exchanged (mirror (swapped (mirror line))) (mirror (swapped (mirror seen))) high wide)
      (alike (swapped (mirror (swapped (mirror line)))) _ (swapped (mirror (swapped (mirror seen)))) _ wide high
      (same_vector _ _ (omega (arith, ints)) (omega (arith, ints)))
      (same_vector _ _ (omega (arith, ints)) (omega (arith, ints)))))))

-- a side that is turned is as long
turned_sides : (t : Turn) (r : Swept) → (pos 0 <ℤ r.width.0) × (pos 0 <ℤ r.height.0)
    ↔ (pos 0 <ℤ (turned_swept t r).width.0) × (pos 0 <ℤ (turned_swept t r).height.0)
turned_sides t r = grind arith

pub turn : SweptTurnLaw
turn t s r = (
  (λ inside.
      let sides = (turned_sides t r).0 (inside.wide, inside.high) in
      swept (turned_place t s) (turned_swept t r) sides.0 sides.1 ((turns s r t).0 (over s r inside))),
  (λ inside.
      let sides = (turned_sides t r).1 (inside.wide, inside.high) in
      swept s r sides.0 sides.1 ((turns s r t).1 (over (turned_place t s) (turned_swept t r) inside))),
)

-- ---- how far the rectangle has gone

-- products of numbers that are not negative
least : (w r : ℤ) → pos 0 ≤ℤ w → pos 0 ≤ℤ r → pos 0 ≤ℤ (w *ℤ r)
least w r p q = grind (arith, ints)

at_least : (w : ℤ) → pos 0 <ℤ w → pos 0 ≤ℤ w
at_least w h = omega (arith, ints)

-- of a way p, q that leads right and up: x, y is past the rectangle about the start to the right, and farther past it that
-- way than it is upwards, so that the rectangle comes to it from the left
across_is : (p x w : ℤ) → p *ℤ x -ℤ (x -ℤ w) *ℤ p ≡ p *ℤ w
across_is p x w =
    equal
    (Difference (Product (Atom p) (Atom x)) (Product (Difference (Atom x) (Atom w)) (Atom p)))
    (Product (Atom p) (Atom w))
    (omega arith)

past_is : (y h p : ℤ) → (y -ℤ h) *ℤ p ≡ p *ℤ y -ℤ p *ℤ h
past_is y h p =
    equal
    (Product (Difference (Atom y) (Atom h)) (Atom p))
    (Difference (Product (Atom p) (Atom y)) (Product (Atom p) (Atom h)))
    (omega arith)

other_is : (x w q : ℤ) → (x -ℤ w) *ℤ q ≡ q *ℤ x -ℤ w *ℤ q
other_is x w q =
    equal
    (Product (Difference (Atom x) (Atom w)) (Atom q))
    (Difference (Product (Atom q) (Atom x)) (Product (Atom w) (Atom q)))
    (omega arith)

turned_product : (a b : ℤ) → a *ℤ b ≡ b *ℤ a
turned_product a b = equal (Product (Atom a) (Atom b)) (Product (Atom b) (Atom a)) (omega arith)

up_between : (py ph t yhp qx wq hp : ℤ) → yhp ≡ py -ℤ ph → t ≡ qx -ℤ wq → hp ≡ ph → yhp ≤ℤ t → (qx -ℤ py) ≤ℤ (wq +ℤ hp)
    → pos (unsigned_abs (py -ℤ t)) ≤ℤ ph
up_between py ph t yhp qx wq hp e f g k l = omega (arith, ints)

size_is : (z : ℤ) → pos 0 ≤ℤ z → pos (unsigned_abs z) ≡ z
size_is z h = omega (arith, ints)

below_size : (z t : ℤ) → pos (unsigned_abs z) ≤ℤ t → (pos 0 -ℤ z) ≤ℤ t
below_size z t h = omega (arith, ints)

less_difference : (a b : ℤ) → pos 0 -ℤ (a -ℤ b) ≡ b -ℤ a
less_difference a b = omega (arith, ints)

at_most_itself : (z : ℤ) → pos 0 ≤ℤ z → pos (unsigned_abs z) ≤ℤ z
at_most_itself z h = omega (arith, ints)

more : (u v : ℤ) → u <ℤ v → pos 0 ≤ℤ (v -ℤ u)
more u v h = omega (arith, ints)

past_start : (p x w : ℤ) → pos 0 ≤ℤ p → w <ℤ x → x ≤ℤ (int_max (pos 0) p +ℤ w) → (pos 0 <ℤ p) × ((x -ℤ w) ≤ℤ p)
past_start p x w h k l = (omega (arith, ints, clamps), omega (arith, ints, clamps))

-- the cross product of such a place, by its sign
cross_low : (a v : Vector) (w h : ℤ) → pos 0 ≤ℤ a.x → pos 0 ≤ℤ a.y → IsNearWay a v w h
    → (a.y *ℤ v.x -ℤ a.x *ℤ v.y) ≤ℤ (w *ℤ a.y +ℤ h *ℤ a.x)
cross_low a v w h right up near =
    subst (λ (z : ℤ). z ≤ℤ (w *ℤ a.y +ℤ h *ℤ a.x)) (less_difference (a.x *ℤ v.y) (a.y *ℤ v.x))
    (subst (λ (z : ℤ). (pos 0 -ℤ cross a v) ≤ℤ (w *ℤ z +ℤ h *ℤ a.x)) (size_is a.y up)
    (subst (λ (z : ℤ). (pos 0 -ℤ cross a v) ≤ℤ (w *ℤ pos (unsigned_abs a.y) +ℤ h *ℤ z)) (size_is a.x right)
    (below_size (cross a v) (corner_reach a w h) near)))

by_right : (a v : Vector) (w h : ℤ) → pos 0 <ℤ w → pos 0 ≤ℤ a.x → pos 0 ≤ℤ a.y → IsOver a v w h → w <ℤ v.x
    → ((v.y -ℤ h) *ℤ a.x) ≤ℤ ((v.x -ℤ w) *ℤ a.y) → IsPassed a v w h (v.x -ℤ w) a.x
by_right a v w h wide right up o beyond farther =
    let there = past_start a.x v.x w right beyond o.across.high in record {
      some = there.0;
      from = more w v.x beyond;
      to = there.1;
      across =
          subst (λ (z : ℤ). pos (unsigned_abs z) ≤ℤ (a.x *ℤ w)) (sym (across_is a.x v.x w))
          (at_most_itself (a.x *ℤ w) (least a.x w right (at_least w wide)));
      along =
          up_between (a.x *ℤ v.y) (a.x *ℤ h) ((v.x -ℤ w) *ℤ a.y) ((v.y -ℤ h) *ℤ a.x) (a.y *ℤ v.x) (w *ℤ a.y) (h *ℤ a.x)
          (past_is v.y h a.x) (other_is v.x w a.y) (turned_product h a.x) farther (cross_low a v w h right up o.near);
    }

-- a stroke that covers a place does so at some n / m of its way
abbrev IsReached : Vector → Vector → ℤ → ℤ → Type 0
IsReached a v w h = (n : ℤ) × ((m : ℤ) × IsPassed a v w h n m)

none : (z : ℤ) → pos 0 *ℤ z ≡ pos 0
none z = omega (arith, ints)

about_start : (d z w : ℤ) → pos 0 ≤ℤ d → (int_min (pos 0) d -ℤ w) ≤ℤ z → z ≤ℤ w
    → pos (unsigned_abs (pos 1 *ℤ z -ℤ pos 0 *ℤ d)) ≤ℤ (pos 1 *ℤ w)
about_start d z w h k l = omega (arith, ints, clamps)

at_start : (a v : Vector) (w h : ℤ) → pos 0 ≤ℤ a.x → pos 0 ≤ℤ a.y → IsOver a v w h → v.x ≤ℤ w → v.y ≤ℤ h → IsReached a v w h
at_start a v w h right up o x y = (
  pos 0,
  (
    pos 1,
    record {
      some = omega (arith, ints);
      from = omega (arith, ints);
      to = omega (arith, ints);
      across = about_start a.x v.x w right o.across.low x;
      along = about_start a.y v.y h up o.up.low y;
    },
  ),
)

passed_swapped : (a v : Vector) (w h n m : ℤ) → IsPassed (swapped a) (swapped v) h w n m → IsPassed a v w h n m
passed_swapped a v w h n m p = record { some = p.some; from = p.from; to = p.to; across = p.along; along = p.across }

reached_swapped : (a v : Vector) (w h : ℤ) → IsReached (swapped a) (swapped v) h w → IsReached a v w h
reached_swapped a v w h p = (p.0, (p.1.0, passed_swapped a v w h p.0 p.1.0 p.1.1))

mirrored_leg : (m n z d : ℤ) → m *ℤ less z -ℤ n *ℤ less d ≡ less (m *ℤ z -ℤ n *ℤ d)
mirrored_leg m n z d =
    let minus : ℤ → Polynomial = λ k. Difference (Atom (pos 0)) (Atom k) in
    equal
    (Difference (Product (Atom m) (minus z)) (Product (Atom n) (minus d)))
    (Difference (Atom (pos 0)) (Difference (Product (Atom m) (Atom z)) (Product (Atom n) (Atom d))))
    (omega arith)

passed_mirrored : (a v : Vector) (w h n m : ℤ) → IsPassed (mirror a) (mirror v) w h n m → IsPassed a v w h n m
passed_mirrored a v w h n m p = grind (arith, mirrored_leg, same_size)

reached_mirrored : (a v : Vector) (w h : ℤ) → IsReached (mirror a) (mirror v) w h → IsReached a v w h
reached_mirrored a v w h p = (p.0, (p.1.0, passed_mirrored a v w h p.0 p.1.0 p.1.1))

-- a product of what is not positive and what is not negative
no_more : (u v : ℤ) → u ≤ℤ pos 0 → pos 0 ≤ℤ v → (u *ℤ v) ≤ℤ pos 0
no_more u v h k = grind (arith, ints, none)

not_past : (u v : ℤ) → u ≤ℤ v → (u -ℤ v) ≤ℤ pos 0
not_past u v h = omega (arith, ints)

between_signs : (u v : ℤ) → u ≤ℤ pos 0 → pos 0 ≤ℤ v → u ≤ℤ v
between_signs u v h k = omega (arith, ints)

at_most_less : (u v : ℤ) → u <ℤ v → u ≤ℤ v
at_most_less u v h = omega (arith, ints)

module _ (w h : ℤ) (wide : pos 0 <ℤ w) (high : pos 0 <ℤ h) where
  -- where the way leads right and up
  up_right : (a v : Vector) → pos 0 ≤ℤ a.x → pos 0 ≤ℤ a.y → IsOver a v w h → IsReached a v w h
  up_right a v right up o =
      let by_x : w <ℤ v.x → ((v.y -ℤ h) *ℤ a.x) ≤ℤ ((v.x -ℤ w) *ℤ a.y) → IsReached a v w h =
      λ beyond farther. (v.x -ℤ w, (a.x, by_right a v w h wide right up o beyond farther)) in
      let by_y : h <ℤ v.y → ((v.x -ℤ w) *ℤ a.y) ≤ℤ ((v.y -ℤ h) *ℤ a.x) → IsReached a v w h =
      λ beyond farther. reached_swapped a v w h
      (v.y -ℤ h, (a.y, by_right (swapped a) (swapped v) h w high up right (over_swapped a v w h o) beyond farther)) in
      by_lt_z w v.x
      (λ x. by_lt_z h v.y
      (λ y. by_lt_z ((v.x -ℤ w) *ℤ a.y) ((v.y -ℤ h) *ℤ a.x)
      (λ less. by_y y (at_most_less ((v.x -ℤ w) *ℤ a.y) ((v.y -ℤ h) *ℤ a.x) less))
      (λ most. by_x x most))
      (λ y. by_x x (between_signs ((v.y -ℤ h) *ℤ a.x) ((v.x -ℤ w) *ℤ a.y) (no_more (v.y -ℤ h) a.x (not_past v.y h y) right)
      (least (v.x -ℤ w) a.y (more w v.x x) up))))
      (λ x. by_lt_z h v.y
      (λ y. by_y y (between_signs ((v.x -ℤ w) *ℤ a.y) ((v.y -ℤ h) *ℤ a.x) (no_more (v.x -ℤ w) a.y (not_past v.x w x) up)
      (least (v.y -ℤ h) a.x (more h v.y y) right)))
      (λ y. at_start a v w h right up o x y))

opposite : (z : ℤ) → z <ℤ pos 0 → pos 0 ≤ℤ less z
opposite z h = omega (arith, ints)

module _ (w h : ℤ) (wide : pos 0 <ℤ w) (high : pos 0 <ℤ h) where
  -- and where it leads left, or down
  up_any : (a v : Vector) → pos 0 ≤ℤ a.y → IsOver a v w h → IsReached a v w h
  up_any a v up o =
      by_lt_z a.x (pos 0)
      (λ left. reached_mirrored a v w h (up_right w h wide high (mirror a) (mirror v) (opposite a.x left) up (over_mirrored a v w h o)))
      (λ right. up_right w h wide high a v right up o)

reached : (w h : ℤ) → pos 0 <ℤ w → pos 0 <ℤ h → (a v : Vector) → IsOver a v w h → IsReached a v w h
reached w h wide high a v o =
    by_lt_z a.y (pos 0)
    (λ down.
    let b = mirror (swapped a) in
    let u = mirror (swapped v) in
    let there : IsOver b u h w = over_mirrored (swapped a) (swapped v) h w (over_swapped a v w h o) in
    let back : IsReached (swapped b) (swapped u) w h =
    up_any w h wide high (swapped b) (swapped u) (opposite a.y down) (over_swapped b u h w there) in
    reached_swapped a v w h (reached_mirrored (swapped a) (swapped v) h w (reached_swapped b u h w back)))
    (λ up. up_any w h wide high a v up o)

-- ---- and back: what the rectangle passes is covered

abbrev gone : Vector → Vector → ℤ → ℤ → Vector
gone a v n m = record { x = m *ℤ v.x -ℤ n *ℤ a.x; y = m *ℤ v.y -ℤ n *ℤ a.y }

cross_gone : (a v : Vector) (n m : ℤ) → cross a (gone a v n m) ≡ m *ℤ cross a v
cross_gone a v n m =
    let leg : ℤ → ℤ → Polynomial = λ z d. Difference (Product (Atom m) (Atom z)) (Product (Atom n) (Atom d)) in
    equal
    (Difference (Product (Atom a.x) (leg v.y a.y)) (Product (Atom a.y) (leg v.x a.x)))
    (Product (Atom m) (Difference (Product (Atom a.x) (Atom v.y)) (Product (Atom a.y) (Atom v.x))))
    (omega arith)

cancelled : (m k l : ℕ) → 0 < m → m * k ≤ m * l → k ≤ l
cancelled m k l some h = grind (arith, cases_lt, mul-le)

scaled : (ax ay uy ux m w h k : ℕ) → k ≤ ax * uy + ay * ux → uy ≤ m * h → ux ≤ m * w → k ≤ m * (w * ay + h * ax)
scaled ax ay uy ux m w h k e f g =
    omega (arith, mul-le ax uy ax (m * h) (omega arith) f, mul-le ay ux ay (m * w) (omega arith) g)

by_sizes : (z : ℤ) (m w : ℕ) → pos (unsigned_abs z) ≤ℤ (pos m *ℤ pos w) → unsigned_abs z ≤ m * w
by_sizes z m w h = omega (arith, ints)

near_passed : (a v : Vector) (m w h : ℕ) (n : ℤ) → 0 < m
    → pos (unsigned_abs (gone a v n (pos m)).x) ≤ℤ (pos m *ℤ pos w) → pos (unsigned_abs (gone a v n (pos m)).y) ≤ℤ (pos m *ℤ pos h)
    → IsNearWay a v (pos w) (pos h)
near_passed a v m w h n some across along =
    let u = gone a v n (pos m) in
    let size : unsigned_abs (cross a u) ≡ m * unsigned_abs (cross a v) =
    ap (λ z. unsigned_abs z) (cross_gone a v n (pos m)) ∙ unsigned_abs-mul (pos m) (cross a v) in
    let most : m * unsigned_abs (cross a v) ≤ m * (w * unsigned_abs a.y + h * unsigned_abs a.x) =
    subst (λ (k : ℕ). k ≤ m * (w * unsigned_abs a.y + h * unsigned_abs a.x)) size
    (scaled (unsigned_abs a.x) (unsigned_abs a.y) (unsigned_abs u.y) (unsigned_abs u.x) m w h (unsigned_abs (cross a u))
    (cross_parts a u) (by_sizes u.y m h along) (by_sizes u.x m w across)) in
    natural (unsigned_abs (cross a v)) (w * unsigned_abs a.y + h * unsigned_abs a.x)
    (cancelled m (unsigned_abs (cross a v)) (w * unsigned_abs a.y + h * unsigned_abs a.x) some most)
  where
    natural : (k l : ℕ) → k ≤ l → pos k ≤ℤ pos l
    natural k l e = omega (arith, ints)

leg_is : (z d n m : ℤ) → z *ℤ m ≡ d *ℤ n +ℤ (m *ℤ z -ℤ n *ℤ d)
leg_is z d n m =
    equal
    (Product (Atom z) (Atom m))
    (Sum (Product (Atom d) (Atom n)) (Difference (Product (Atom m) (Atom z)) (Product (Atom n) (Atom d))))
    (omega arith)

up_to : (z t : ℤ) → pos (unsigned_abs z) ≤ℤ t → z ≤ℤ t
up_to z t h = omega (arith, ints)

most_of : (d : ℤ) → (d ≤ℤ int_max (pos 0) d) × (pos 0 ≤ℤ int_max (pos 0) d)
most_of d = (omega (arith, ints, clamps), omega (arith, ints, clamps))

spanned_high : (d z w n m : ℤ) → pos 0 <ℤ m → pos 0 ≤ℤ n → n ≤ℤ m → pos (unsigned_abs (m *ℤ z -ℤ n *ℤ d)) ≤ℤ (m *ℤ w)
    → z ≤ℤ (int_max (pos 0) d +ℤ w)
spanned_high d z w n m some from to h =
    let most = most_of d in
    reach z d n m (m *ℤ z -ℤ n *ℤ d) w (int_max (pos 0) d) some from to most.0 most.1 (leg_is z d n m)
    (subst (λ (k : ℤ). (m *ℤ z -ℤ n *ℤ d) ≤ℤ k) (turned_product m w) (up_to (m *ℤ z -ℤ n *ℤ d) (m *ℤ w) h))

low_from_mirror : (d z w : ℤ) → less z ≤ℤ (int_max (pos 0) (less d) +ℤ w) → (int_min (pos 0) d -ℤ w) ≤ℤ z
low_from_mirror d z w h = omega (arith, ints, clamps)

spanned : (d z w n m : ℤ) → pos 0 <ℤ m → pos 0 ≤ℤ n → n ≤ℤ m → pos (unsigned_abs (m *ℤ z -ℤ n *ℤ d)) ≤ℤ (m *ℤ w)
    → IsSpanned d z w
spanned d z w n m some from to h = search (rules, mirrored_leg, same_size, low_from_mirror, spanned_high)

positive : (m : ℕ) → pos 0 <ℤ pos m → 0 < m
positive m h = omega (arith, ints)

passed_over : (a v : Vector) (w h n m : ℤ) → pos 0 <ℤ w → pos 0 <ℤ h → IsPassed a v w h n m → IsOver a v w h
passed_over a v w h n m wide high p = grind (arith, natural_or_not, near_passed, positive, spanned)

pub ways : SweptWayLaw
ways s r wide high = (
  (λ inside. reached r.width.0 r.height.0 wide high (way r.from r.to) (seen_from r.from s) (over s r inside)),
  (λ p. swept s r wide high
      (passed_over (way r.from r.to) (seen_from r.from s) r.width.0 r.height.0 p.0 p.1.0 wide high p.1.1)),
)
