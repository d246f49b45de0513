-- Sweeps by the products of the ways to their ends.
use Rattle.std.proofs.Common.{◌≡◌, ◌<◌, ◌^◌, Bool, true, false, ℤ, pos, ◌+ℤ◌, ◌≤ℤ◌, ◌<ℤ◌, ◌&&◌, int_eq, inl, inr, sym, ◌∙◌, arith}
use Rattle.std.specs.Int.RustNames.{unsigned_abs}
use Rattle.std.specs.Int.Signed.{le_z, lt_z}
use Rattle.std.proofs.lemmas.Int.{by_lt_z, ints}
use Rattle.cam_units.specs.declared.point.Point.{Point}
use Rattle.cam_units.specs.declared.point.Spot.{Spot}
use Rattle.cam_units.proofs.Ring.{Atom, Difference, Polynomial, Product, equal}
use Rattle.cam_shapes.specs.declared.vector.Vector.{Vector}
use Rattle.cam_shapes.specs.Plane.{cross, dot, seen_from, way}
use Rattle.cam_shapes.specs.Arc.{IsNarrow}
use Rattle.cam_shapes.proofs.Widths.{kept, wide}

-- before the end, by the side of the way from there to the centre
pub beyond_end : (c e : Point) (s : Spot) → cross (way e c) (seen_from e s) ≡ cross (seen_from c s) (way c e)
beyond_end c e s =
    let twice : ℤ → Polynomial = λ z. Product (Atom (pos 2)) (Atom z) in
    let gap : ℤ → ℤ → Polynomial = λ m n. Difference (twice m) (twice n) in
    let seen : ℤ → ℤ → Polynomial = λ m n. Difference (Atom m) (twice n) in
    equal
    (Difference (Product (gap c.x e.x) (seen s.y e.y)) (Product (gap c.y e.y) (seen s.x e.x)))
    (Difference (Product (seen s.x c.x) (gap e.y c.y)) (Product (seen s.y c.y) (gap e.x c.x)))
    (omega arith)

pub no_more : (z : ℤ) → z +ℤ pos 0 ≡ z
no_more z = omega (arith, ints)

-- what tests of short numbers tell
pub natural_by_test : (z : ℤ) → unsigned_abs z < 2 ^ 67 → le_z (pos 0) (wide z) ≡ true → pos 0 ≤ℤ z
natural_by_test z h e = let told = rw (kept z h) at e in grind (arith, ints)

pub negative_by_test : (z : ℤ) → unsigned_abs z < 2 ^ 67 → le_z (pos 0) (wide z) ≡ false → z <ℤ pos 0
negative_by_test z h e = let told = rw (kept z h) at e in grind (arith, ints)

pub right_by_test : (z : ℤ) → unsigned_abs z < 2 ^ 67 → lt_z (wide z) (pos 0) ≡ true → z <ℤ pos 0
right_by_test z h e = let told = rw (kept z h) at e in grind (arith, ints)

pub left_by_test : (z : ℤ) → unsigned_abs z < 2 ^ 67 → lt_z (wide z) (pos 0) ≡ false → pos 0 ≤ℤ z
left_by_test z h e = let told = rw (kept z h) at e in grind (arith, ints)

pub other_points : (p q : Point) (b : Bool) → b ≡ (int_eq p.x q.x && int_eq p.y q.y) → b ≡ false → p ≡ q → ⊥
other_points p q b e f same = let told = rw same at e in grind (arith, ints)

-- a sweep turns by its cross product, and where that is 0 by its dot product
pub narrow_by_turn : (s e : Vector) (turn : ℤ) → turn ≡ cross s e → pos 0 ≤ℤ turn → (turn ≡ pos 0 → dot s e <ℤ pos 0)
    → IsNarrow s e
narrow_by_turn s e turn is natural back =
    by_lt_z (pos 0) turn
    (λ left. inl (rw (← is) left))
    (λ straight. let none : turn ≡ pos 0 = omega (arith, ints) in inr (sym is ∙ none, back none))

pub straight_ahead : (s e : Vector) (turn : ℤ) → turn ≡ cross s e → turn ≡ pos 0 → pos 0 ≤ℤ dot s e → IsNarrow s e → ⊥
straight_ahead s e turn is none ahead it = grind (arith, ints)
