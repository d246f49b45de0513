-- The sides of an arc.
use Rattle.std.proofs.lemmas.Grind.{common_steps}
use Rattle.std.proofs.Common.{◌≡◌, Bool, true, false, ℕ, zero, suc, ◌+◌, ◌*◌, ◌<◌, ◌≤◌, ℤ, pos, negsuc, ◌+ℤ◌, ◌-ℤ◌, ◌*ℤ◌, ◌≤ℤ◌, ◌<ℤ◌, ◌⊎◌, inl, inr, ap, ◌∙◌, arith}
use Rattle.std.specs.Int.RustNames.{unsigned_abs}
use Rattle.std.proofs.lemmas.Int.{ints, by_lt_z}
use Rattle.std.proofs.lemmas.Nat.{mul-le}
use Rattle.cam_units.proofs.Ring.{Polynomial, Atom, Sum, Difference, Product, equal}
use Rattle.cam_shapes.specs.declared.vector.Vector.{Vector}
use Rattle.cam_shapes.specs.Plane.{cross, dot}
use Rattle.cam_shapes.specs.Arc.{IsInSweep, IsSwept}
use Rattle.cam_shapes.proofs.Strokes.{dot_is}
use Rattle.cam_shapes.proofs.Vectors.{same_vector}
use Rattle.cam_ask.specs.Painted.{right}
use Rattle.cam_ask.proofs.Ends.{turned_on}

-- whole numbers next to the length of a way
pub record IsLength (v : Vector) (low high : ℕ) : Type 0 where
  pub floor : low * low ≤ unsigned_abs v.x * unsigned_abs v.x + unsigned_abs v.y * unsigned_abs v.y
  pub next : unsigned_abs v.x * unsigned_abs v.x + unsigned_abs v.y * unsigned_abs v.y < (low + 1) * (low + 1)
  pub ceiling : unsigned_abs v.x * unsigned_abs v.x + unsigned_abs v.y * unsigned_abs v.y ≤ high * high

-- places from LEAST to MOST far from the centre, beside an end from LOW to HIGH far: the distances differ by G at most
pub record IsReached (low high least most g : ℕ) : Type 0 where
  pub beyond : most ≤ low + g
  pub within : high ≤ least + g

-- ---- signs of products

pub some_some : (a b : ℤ) → pos 0 ≤ℤ a → pos 0 ≤ℤ b → pos 0 ≤ℤ (a *ℤ b)
some_some a b h k = grind (arith, ints)

more_more : (a b : ℤ) → pos 0 <ℤ a → pos 0 <ℤ b → pos 0 <ℤ (a *ℤ b)
more_more a b h k = grind (arith, ints, mul-le)

swapped : (p a : ℤ) → p *ℤ a ≡ a *ℤ p
swapped p a = equal (Product (Atom p) (Atom a)) (Product (Atom a) (Atom p)) (omega arith)

-- where a factor is the other way round
minus : (a b : ℤ) → (pos 0 -ℤ a) *ℤ b ≡ pos 0 -ℤ a *ℤ b
minus a b = equal (Product (Difference (Atom (pos 0)) (Atom a)) (Atom b)) (Difference (Atom (pos 0)) (Product (Atom a) (Atom b))) (omega arith)

minus_minus : (a b : ℤ) → (pos 0 -ℤ a) *ℤ (pos 0 -ℤ b) ≡ a *ℤ b
minus_minus a b = grind (arith, equal, Product, Difference, Atom)

none_some : (a b : ℤ) → a ≤ℤ pos 0 → pos 0 ≤ℤ b → (a *ℤ b) ≤ℤ pos 0
none_some a b h k = omega (arith, ints, minus a b, some_some (pos 0 -ℤ a) b (omega (arith, ints, h)) k)

less_more : (a b : ℤ) → a <ℤ pos 0 → pos 0 <ℤ b → (a *ℤ b) <ℤ pos 0
less_more a b h k = omega (arith, ints, minus a b, more_more (pos 0 -ℤ a) b (omega (arith, ints, h)) k)

less_less : (a b : ℤ) → a <ℤ pos 0 → b <ℤ pos 0 → pos 0 <ℤ (a *ℤ b)
less_less a b h k = grind (arith, ints, minus_minus, more_more)

-- ---- which end a place is turned on from

-- the heights p, q and r of an end, of the other end and of a place between them, and the sines a, b and c of the ways from
-- the place to the other end, from the end to the place, and from end to end
abbrev IsFromEnd : ℤ → ℤ → ℤ → ℤ → ℤ → Type 0
IsFromEnd p q r a b =
    ((pos 0 <ℤ p) × (pos 0 ≤ℤ r) × (pos 0 ≤ℤ b)) ⊎ ((q <ℤ pos 0) × (r ≤ℤ pos 0) × (pos 0 ≤ℤ a))

narrow_end : (p q r a b c : ℤ) → (p *ℤ a +ℤ q *ℤ b) ≡ r *ℤ c → pos 0 ≤ℤ a → pos 0 ≤ℤ b → pos 0 <ℤ c
    → (p ≤ℤ pos 0 → pos 0 ≤ℤ q → ⊥) → IsFromEnd p q r a b
narrow_end p q r a b c e ha hb hc off = by_lt_z (pos 0) p
    (λ up. by_lt_z r (pos 0)
    (λ under. by_lt_z q (pos 0)
    (λ down. inr (down, omega (arith, ints, under), ha))
    (λ level. absurd (omega (arith, ints, e, some_some p a (omega (arith, ints, up)) ha, some_some q b level hb, less_more r c under hc))))
    (λ over. inl (up, over, hb)))
    (λ low. by_lt_z q (pos 0)
    (λ down. by_lt_z (pos 0) r
    (λ over. absurd (omega (arith, ints, e, none_some p a low ha, none_some q b (omega (arith, ints, down)) hb, more_more r c over hc)))
    (λ under. inr (down, under, ha)))
    (λ level. absurd (off low level)))

wide_end : (p q r a b c : ℤ) → (p *ℤ a +ℤ q *ℤ b) ≡ r *ℤ c → c <ℤ pos 0 → (pos 0 ≤ℤ b) ⊎ (pos 0 ≤ℤ a) → pos 0 <ℤ p → q <ℤ pos 0
    → IsFromEnd p q r a b
wide_end p q r a b c e hc either up down = grind (arith, by_lt_z, ints, less_more, swapped, none_some, less_less)

-- the identity of three ways in the plane
abbrev times : ℤ → ℤ → Polynomial
times a b = Product (Atom a) (Atom b)

three_ways : (s e v : Vector) → (s.y *ℤ cross v e +ℤ e.y *ℤ cross s v) ≡ v.y *ℤ cross s e
three_ways s e v =
    equal
    (Sum (Product (Atom s.y) (Difference (times v.x e.y) (times v.y e.x))) (Product (Atom e.y) (Difference (times s.x v.y) (times s.y v.x))))
    (Product (Atom v.y) (Difference (times s.x e.y) (times s.y e.x)))
    (omega arith)

-- two ends across the centre from one another: one is above it where the other is below
opposite : (s e : Vector) → e.y *ℤ dot s s ≡ s.y *ℤ dot s e +ℤ s.x *ℤ cross s e
opposite s e =
    equal
    (Product (Atom e.y) (Sum (times s.x s.x) (times s.y s.y)))
    (Sum (Product (Atom s.y) (Sum (times s.x e.x) (times s.y e.y))) (Product (Atom s.x) (Difference (times s.x e.y) (times s.y e.x))))
    (omega arith)

opposite_back : (s e : Vector) → s.y *ℤ dot e e ≡ e.y *ℤ dot s e -ℤ e.x *ℤ cross s e
opposite_back s e =
    equal
    (Product (Atom s.y) (Sum (times e.x e.x) (times e.y e.y)))
    (Difference (Product (Atom e.y) (Sum (times s.x e.x) (times s.y e.y))) (Product (Atom e.x) (Difference (times s.x e.y) (times s.y e.x))))
    (omega arith)

by_none : (a c : ℤ) → c ≡ pos 0 → a *ℤ c ≡ pos 0
by_none a c e = grind (arith, ints)

some_dot : (v : Vector) → pos 0 ≤ℤ dot v v
some_dot v = omega (arith, ints, dot_is v)

down_by_up : (s e : Vector) → cross s e ≡ pos 0 → dot s e <ℤ pos 0 → pos 0 <ℤ s.y → e.y <ℤ pos 0
down_by_up s e level back up = by_lt_z e.y (pos 0) (λ down. down)
    (λ over. absurd (omega (
      arith,
      ints,
      opposite s e,
      by_none s.x (cross s e) level,
      some_some e.y (dot s s) over (some_dot s),
      swapped s.y (dot s e),
      less_more (dot s e) s.y back up,
    )))

up_by_down : (s e : Vector) → cross s e ≡ pos 0 → dot s e <ℤ pos 0 → e.y <ℤ pos 0 → pos 0 <ℤ s.y
up_by_down s e level back down = grind (arith, by_lt_z, ints, opposite_back, by_none, none_some, some_dot)

opposed_end : (s e : Vector) (r a b : ℤ) → cross s e ≡ pos 0 → dot s e <ℤ pos 0 → pos 0 ≤ℤ a → pos 0 ≤ℤ b
    → (s.y ≤ℤ pos 0 → pos 0 ≤ℤ e.y → ⊥) → IsFromEnd s.y e.y r a b
opposed_end s e r a b level back ha hb off = grind (arith, by_lt_z, down_by_up, up_by_down, ints)

-- the way to the right, beside another way
before_right : (s : Vector) → cross s right ≡ pos 0 -ℤ s.y
before_right s = equal (Difference (times s.x (pos 0)) (times s.y (pos 1))) (Difference (Atom (pos 0)) (Atom s.y)) (omega arith)

after_right : (e : Vector) → cross right e ≡ e.y
after_right e = equal (Difference (times (pos 1) e.y) (times (pos 0) e.x)) (Atom e.y) (omega arith)

from_end : (s e v : Vector) → IsInSweep s e v → (IsInSweep s e right → ⊥) → IsFromEnd s.y e.y v.y (cross v e) (cross s v)
from_end s e v (inl same) off = absurd (off (inl same))
from_end s e v (inr (inl h)) off =
    let off_axis : s.y ≤ℤ pos 0 → pos 0 ≤ℤ e.y → ⊥ = λ low over. off (inr (inl (
      h.0,
      omega (arith, ints, before_right s, low),
      omega (arith, ints, after_right e, over),
    ))) in
    elim h.0 [
      | inl turn ↦ narrow_end s.y e.y v.y (cross v e) (cross s v) (cross s e) (three_ways s e v) h.2 h.1 turn off_axis
      | inr flat ↦ opposed_end s e v.y (cross v e) (cross s v) flat.0 flat.1 h.2 h.1 off_axis
    ]
from_end s e v (inr (inr h)) off =
    wide_end s.y e.y v.y (cross v e) (cross s v) (cross s e) (three_ways s e v) h.0 h.1
    (by_lt_z (pos 0) s.y (λ up. up) (λ low. absurd (off (inr (inr (h.0, inl (omega (arith, ints, before_right s, low))))))))
    (by_lt_z e.y (pos 0) (λ down. down) (λ over. absurd (off (inr (inr (h.0, inr (omega (arith, ints, after_right e, over))))))))

-- ---- how far to the right

module _ (low high least most g : ℕ) (reach : IsReached low high least most g) where
  above_end : (sx sy vx vy : ℤ) → pos 0 <ℤ sy → pos 0 ≤ℤ vy → pos 0 ≤ℤ (sx *ℤ vy -ℤ sy *ℤ vx)
      → IsLength (record { x = sx; y = sy }) low high
      → least * least ≤ unsigned_abs vx * unsigned_abs vx + unsigned_abs vy * unsigned_abs vy
      → unsigned_abs vx * unsigned_abs vx + unsigned_abs vy * unsigned_abs vy ≤ most * most
      → vx ≤ℤ (sx +ℤ pos g)
  above_end sx (pos z) vx (pos y) up over turn length bottom top =
      turned_on vx sx y z low high least most g (omega (arith, ints, turn, swapped (pos z) vx)) (omega (arith, ints, up))
      length.floor length.next length.ceiling bottom top reach.beyond reach.within
  above_end sx (pos z) vx (negsuc y) up over turn length bottom top = absurd (omega (arith, ints, over))
  above_end sx (negsuc z) vx vy up over turn length bottom top = absurd (omega (arith, ints, up))

  by_negative : (a : ℤ) (n : ℕ) → a *ℤ negsuc n ≡ pos 0 -ℤ a *ℤ pos (suc n)
  by_negative a n = grind (arith, ints)

  below_end : (ex ey vx vy : ℤ) → ey <ℤ pos 0 → vy ≤ℤ pos 0 → pos 0 ≤ℤ (vx *ℤ ey -ℤ vy *ℤ ex)
      → IsLength (record { x = ex; y = ey }) low high
      → least * least ≤ unsigned_abs vx * unsigned_abs vx + unsigned_abs vy * unsigned_abs vy
      → unsigned_abs vx * unsigned_abs vx + unsigned_abs vy * unsigned_abs vy ≤ most * most
      → vx ≤ℤ (ex +ℤ pos g)
  below_end ex (pos z) vx vy down under turn length bottom top = absurd (omega (arith, ints, down))
  below_end ex (negsuc z) vx (pos (suc y)) down under turn length bottom top = absurd (omega (arith, ints, under))
  below_end ex (negsuc z) vx (pos zero) down under turn length bottom top =
      turned_on vx ex 0 (suc z) low high least most g
      (omega (arith, ints, turn, by_negative vx z, swapped (pos 0) ex)) (omega arith)
      length.floor length.next length.ceiling bottom top reach.beyond reach.within
  below_end ex (negsuc z) vx (negsuc y) down under turn length bottom top =
      turned_on vx ex (suc y) (suc z) low high least most g
      (omega (arith, ints, turn, by_negative vx z, by_negative ex y, swapped (negsuc y) ex)) (omega arith)
      length.floor length.next length.ceiling bottom top reach.beyond reach.within

-- a place that an arc passes, and its ends, as they are seen from the centre
pub record IsPassed (ccw : Bool) (s e v : Vector) (sl sh el eh least most g : ℕ) : Type 0 where
  pub start : IsLength s sl sh
  pub finish : IsLength e el eh
  pub bottom : least * least ≤ unsigned_abs v.x * unsigned_abs v.x + unsigned_abs v.y * unsigned_abs v.y
  pub top : unsigned_abs v.x * unsigned_abs v.x + unsigned_abs v.y * unsigned_abs v.y ≤ most * most
  pub start_reach : IsReached sl sh least most g
  pub finish_reach : IsReached el eh least most g
  pub swept : IsSwept ccw s e v

-- one that does not pass the axis to the right goes no farther to the right than its ends
in_order : (s e v : Vector) (sl sh el eh least most g : ℕ) → IsLength s sl sh → IsLength e el eh
    → least * least ≤ unsigned_abs v.x * unsigned_abs v.x + unsigned_abs v.y * unsigned_abs v.y
    → unsigned_abs v.x * unsigned_abs v.x + unsigned_abs v.y * unsigned_abs v.y ≤ most * most
    → IsReached sl sh least most g → IsReached el eh least most g
    → IsInSweep s e v → (IsInSweep s e right → ⊥)
    → (v.x ≤ℤ (s.x +ℤ pos g)) ⊎ (v.x ≤ℤ (e.x +ℤ pos g))
in_order s e v sl sh el eh least most g hs he floor ceiling rs re swept off = elim (from_end s e v swept off) [
  | inl h ↦ inl (above_end sl sh least most g rs s.x s.y v.x v.y h.0 h.1 h.2 hs floor ceiling)
  | inr h ↦ inr (below_end el eh least most g re e.x e.y v.x v.y h.0 h.1 h.2 he floor ceiling)
]

pub to_the_right : (ccw : Bool) (s e v : Vector) (sl sh el eh least most g : ℕ) → IsPassed ccw s e v sl sh el eh least most g
    → (IsSwept ccw s e right → ⊥) → (v.x ≤ℤ (s.x +ℤ pos g)) ⊎ (v.x ≤ℤ (e.x +ℤ pos g))
to_the_right true s e v sl sh el eh least most g h off =
    in_order s e v sl sh el eh least most g h.start h.finish h.bottom h.top h.start_reach h.finish_reach h.swept off
to_the_right false s e v sl sh el eh least most g h off =
    elim (in_order e s v el eh sl sh least most g h.finish h.start h.bottom h.top h.finish_reach h.start_reach h.swept off) [
      | inl far ↦ inr far
      | inr far ↦ inl far
    ]

-- ---- the other sides, by quarter turns

abbrev pub turned : Vector → Vector
turned v = record { x = v.y; y = pos 0 -ℤ v.x }

cross_turned : (a b : Vector) → cross (turned a) (turned b) ≡ cross a b
cross_turned a b =
    equal
    (Difference (Product (Atom a.y) (Difference (Atom (pos 0)) (Atom b.x))) (Product (Difference (Atom (pos 0)) (Atom a.x)) (Atom b.y)))
    (Difference (times a.x b.y) (times a.y b.x))
    (omega arith)

dot_turned : (a b : Vector) → dot (turned a) (turned b) ≡ dot a b
dot_turned a b =
    equal
    (Sum (times a.y b.y) (Product (Difference (Atom (pos 0)) (Atom a.x)) (Difference (Atom (pos 0)) (Atom b.x))))
    (Sum (times a.x b.x) (times a.y b.y))
    (omega arith)

back_again : (s e : Vector) → turned s ≡ turned e → s ≡ e
back_again s e same = grind (arith, same_vector, ints)

abbrev AreAlike : Vector → Vector → Vector → Vector → Vector → Vector → Type 0
AreAlike s e v s' e' v' =
    (s ≡ e → s' ≡ e') × (cross s' e' ≡ cross s e) × (dot s' e' ≡ dot s e) × (cross s' v' ≡ cross s v) × (cross v' e' ≡ cross v e)

sweep_alike : (s e v s' e' v' : Vector) → AreAlike s e v s' e' v' → IsInSweep s e v → IsInSweep s' e' v'
sweep_alike s e v s' e' v' k it = grind arith

swept_turned : (ccw : Bool) (s e v : Vector) → IsSwept ccw s e v → IsSwept ccw (turned s) (turned e) (turned v)
swept_turned ccw s e v h = grind (arith, sweep_alike, cross_turned, dot_turned)

pub swept_back : (ccw : Bool) (s e v : Vector) → IsSwept ccw (turned s) (turned e) (turned v) → IsSwept ccw s e v
swept_back ccw s e v h = grind (arith, common_steps, sweep_alike, back_again, cross_turned, dot_turned)

abs_minus : (z : ℤ) → unsigned_abs (pos 0 -ℤ z) ≡ unsigned_abs z
abs_minus z = omega (arith, ints)

-- the square of a length does not change
abbrev pub square_of : Vector → ℕ
square_of v = unsigned_abs v.x * unsigned_abs v.x + unsigned_abs v.y * unsigned_abs v.y

square_turned : (v : Vector) → square_of (turned v) ≡ square_of v
square_turned v = ap (λ n. unsigned_abs v.y * unsigned_abs v.y + n * n) (abs_minus v.x) ∙ omega arith

length_turned : (v : Vector) (low high : ℕ) → IsLength v low high → IsLength (turned v) low high
length_turned v low high h = grind (arith, square_turned)

pub passed_turned : (ccw : Bool) (s e v : Vector) (sl sh el eh least most g : ℕ) → IsPassed ccw s e v sl sh el eh least most g
    → IsPassed ccw (turned s) (turned e) (turned v) sl sh el eh least most g
passed_turned ccw s e v sl sh el eh least most g h = grind (arith, length_turned, square_turned, swept_turned)
