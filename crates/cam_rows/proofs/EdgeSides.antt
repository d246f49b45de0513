-- Which side of an edge a place is on, by its ends in either order.
use Rattle.std.proofs.Common.{rules, ◌≡◌, ◌≢◌, ◌↔◌, ℕ, ◌<◌, Bool, true, false, IsTrue, ℤ, pos, ◌-ℤ◌, ◌*ℤ◌, ◌≤ℤ◌, ◌<ℤ◌, inl, inr}
use Rattle.std.proofs.Common.{sym, ◌∙◌, arith}
use Rattle.std.proofs.lemmas.Bool.{cases_Bool, false≢true}
use Rattle.std.proofs.lemmas.Int.{by_lt_z, ints}
use Rattle.cam_units.specs.declared.point.Point.{Point}
use Rattle.cam_units.specs.declared.point.Spot.{Spot}
use Rattle.cam_units.proofs.Ring.{Polynomial, Atom, Difference, Product, equal}
use Rattle.cam_shapes.specs.Edge.{crosses_ray, edge, is_above}
use Rattle.cam_shapes.specs.Plane.{cross, seen_from, way}
use Rattle.cam_shapes.proofs.Crossings.{less_is, under}
use Rattle.cam_rows.specs.declared.centres.Centres.{Centres}
use Rattle.cam_rows.specs.Rows.{centre_at, first_centre, row_below}
use Rattle.cam_rows.proofs.Slopes.{top_row}

-- a place left of the one is right of the other
reversed : (p q : Point) (s : Spot)
    → cross (way q p) (seen_from q s) ≡ pos 0 -ℤ cross (way p q) (seen_from p s)
reversed p q s =
    let twice : ℤ → Polynomial = λ z. Product (Atom (pos 2)) (Atom z) in
    let gap : ℤ → ℤ → Polynomial = λ z w. Difference (twice z) (twice w) in
    let seen : ℤ → ℤ → Polynomial = λ z w. Difference (Atom z) (twice w) in
    let one = Difference (Product (gap q.x p.x) (seen s.y p.y)) (Product (gap q.y p.y) (seen s.x p.x)) in
    let other = Difference (Product (gap p.x q.x) (seen s.y q.y)) (Product (gap p.y q.y) (seen s.x q.x)) in
    equal other (Difference (Atom (pos 0)) one) (omega arith)

negative : (z w : ℤ) → w ≡ pos 0 -ℤ z → (pos 0 <ℤ w) ↔ (z <ℤ pos 0)
negative z w e = ((λ h. omega (arith, ints)), (λ h. omega (arith, ints)))

through : {A B C : Type 0} → (A ↔ B) → (C ↔ B) → A ↔ C
through f g = ((λ a. g.1 (f.0 a)), (λ c. f.1 (g.0 c)))

-- an edge that falls crosses the rays from the left of its reverse
left_of_reverse : (s : Spot) (p q : Point) → is_above p s ≡ true → is_above q s ≡ false
    → (pos 0 <ℤ cross (way q p) (seen_from q s)) ↔ IsTrue (crosses_ray s (edge p q))
left_of_reverse s p q above below =
    rw (above, below) (through
    (negative (cross (way p q) (seen_from p s)) (cross (way q p) (seen_from q s)) (reversed p q s))
    (less_is (cross (way p q) (seen_from p s)) (pos 0)))

-- and one that rises, from its own left
left_of_edge : (s : Spot) (p q : Point) → is_above p s ≡ false → is_above q s ≡ true
    → (pos 0 <ℤ cross (way p q) (seen_from p s)) ↔ IsTrue (crosses_ray s (edge p q))
left_of_edge s p q below above = grind (arith, less_is)

-- a point above a row is above the rows below it
no_higher : (step : ℤ) (k : ℕ) → pos 1 ≤ℤ step → pos 0 ≤ℤ (pos k *ℤ step)
no_higher step k up = grind (arith, ints)

above_lower : (p : Point) (c : Centres) (k : ℕ) → pos 1 ≤ℤ c.step → is_above p (first_centre c) ≡ true
    → is_above p (first_centre (row_below c k)) ≡ true
above_lower p c k up above = grind (arith, less_is, under, ints, no_higher)

-- of two ends on different sides of a row's height
other_below : (a b : Bool) → a ≡ true → a ≢ b → b ≡ false
other_below a b e apart = elim (cases_Bool b) [ inl same ↦ absurd (apart (e ∙ sym same)) | inr other ↦ other ]

other_above : (a b : Bool) → a ≡ false → a ≢ b → b ≡ true
other_above a b e apart = elim (cases_Bool b) [ inl other ↦ other | inr same ↦ absurd (apart (e ∙ sym same)) ]

-- exactly one end of the edge is above the row
abbrev IsCrossed : Point → Point → Centres → Type 0
IsCrossed p q c = is_above p (first_centre c) ≢ is_above q (first_centre c)

pub only_crossed : (p q : Point) (c : Centres) (k : ℕ) → k < 1 → IsCrossed p q c → IsCrossed p q (row_below c k)
only_crossed p q c k within crossed = grind (arith, top_row)

-- an edge whose start is above the top row falls through each row that it crosses, and another rises
pub falls_through : (p q : Point) (c : Centres) (k i : ℕ) → pos 1 ≤ℤ c.step → is_above p (first_centre c) ≡ true
    → IsCrossed p q (row_below c k)
    → (pos 0 <ℤ cross (way q p) (seen_from q (centre_at (row_below c k) i)))
    ↔ IsTrue (crosses_ray (centre_at (row_below c k) i) (edge p q))
falls_through p q c k i up above crossed = search (rules, above_lower, left_of_reverse, other_below)

pub rises_through : (p q : Point) (c : Centres) (k i : ℕ) → pos 1 ≤ℤ c.step → is_above p (first_centre c) ≡ false
    → IsCrossed p q (row_below c 0) → IsCrossed p q (row_below c k)
    → (pos 0 <ℤ cross (way p q) (seen_from p (centre_at (row_below c k) i)))
    ↔ IsTrue (crosses_ray (centre_at (row_below c k) i) (edge p q))
rises_through p q c k i up below top crossed = grind (arith, other_above, top_row, above_lower, left_of_edge, other_below)

-- of a row between the ends, the higher one is above it
lower_end : (p q : Point) (s : Spot) → is_above p s ≡ true → is_above q s ≡ false → q.y <ℤ p.y
lower_end p q s above below = grind (arith, less_is, by_lt_z, false≢true, ints)

pub falls_to : (p q : Point) (c : Centres) → is_above p (first_centre c) ≡ true → IsCrossed p q (row_below c 0) → q.y <ℤ p.y
falls_to p q c above crossed = grind (arith, lower_end, other_below, top_row)

pub rises_to : (p q : Point) (c : Centres) → is_above p (first_centre c) ≡ false → IsCrossed p q (row_below c 0) → p.y <ℤ q.y
rises_to p q c below crossed = grind (arith, lower_end, other_above, top_row)
