-- The tests of shapes that compute mean what the relations say.
use Rattle.std.proofs.Common.{arith, rules, ◌≡◌, ◌↔◌, ℤ, pos, ◌⊎◌, Bool, ◌&&◌, ◌||◌, IsTrue}
use Rattle.std.specs.Prelude.{unsigned_abs}
use Rattle.std.specs.Ordering.{int_eq}
use Rattle.std.specs.Bool.{Decides}
use Rattle.std.proofs.lemmas.Bool.Decides.{Decides-and, Decides-eqb, Decides-int_eq, Decides-like, Decides-or}
use Rattle.cam_units.specs.declared.point.Spot.{Spot}
use Rattle.cam_units.specs.Boxes.{IsInBox}
use Rattle.cam_shapes.specs.declared.vector.Vector.{Vector}
use Rattle.cam_shapes.specs.declared.disc.Disc.{Disc}
use Rattle.cam_shapes.specs.declared.rectangle.Rectangle.{Rectangle}
use Rattle.cam_shapes.specs.declared.obround.Obround.{Obround}
use Rattle.cam_shapes.specs.declared.bar.Bar.{Bar}
use Rattle.cam_shapes.specs.declared.capsule.Capsule.{Capsule}
use Rattle.cam_shapes.specs.declared.arc.Arc.{Arc}
use Rattle.cam_shapes.specs.declared.swept.Swept.{Swept}
use Rattle.cam_shapes.specs.declared.contour.Contour.{Contour}
use Rattle.cam_shapes.specs.Plane.{cross, dot, square, IsBetween, IsNoLonger}
use Rattle.cam_shapes.specs.Disc.{IsInDisc, IsInHole}
use Rattle.cam_shapes.specs.Box.{from_left_end, from_right_end, IsAlong, IsInObround, IsInRectangle, IsRounded}
use Rattle.cam_shapes.specs.Bar.{IsBeside, IsBetweenEnds, IsInBar, IsInCapsule, IsNearSegment}
use Rattle.cam_shapes.specs.Arc.{IsInArc, IsInSweep, IsNarrow, IsNearArc, IsNearCircle, IsOnArc, IsSwept}
use Rattle.cam_shapes.specs.Contour.{IsInContour}
use Rattle.cam_shapes.specs.Swept.{corner_reach, IsInSwept, IsNearWay}
use Rattle.cam_shapes.specs.Tests.{is_in_arc, is_in_bar, is_in_capsule, is_in_contour, is_in_disc, is_in_hole, is_in_obround}
use Rattle.cam_shapes.specs.Tests.{is_in_rectangle, is_along, is_beside, is_between, is_between_ends, is_in_sweep, is_narrow}
use Rattle.cam_shapes.specs.Tests.{is_boxed, is_in_swept, is_near_arc, is_near_way, is_near_circle, is_near_segment, is_on_arc}
use Rattle.cam_shapes.specs.Tests.{is_rounded, is_swept, is_within}
use Rattle.cam_shapes.proofs.Crossings.{less_is}
use Rattle.cam_shapes.proofs.Vectors.{same_vector}
use Rattle.cam_shapes.proofs.Widths.{at_most_is}

both : {P Q : Type 0} {x y : Bool} → Decides x P → Decides y Q → Decides (x && y) (P × Q)
both {P} {Q} {x} {y} d k = Decides-and x y d k

either : {P Q : Type 0} {x y : Bool} → Decides x P → Decides y Q → Decides (x || y) (P ⊎ Q)
either {P} {Q} {x} {y} d k = Decides-or x y d k

like : {P Q : Type 0} {x : Bool} → (P → Q) → (Q → P) → Decides x P → Decides x Q
like {P} {Q} {x} f g d = Decides-like x f g d

within : (v : Vector) (r : ℤ) → Decides (is_within v r) (IsNoLonger v r)
unfolding is_within
within v r = at_most_is (dot v v) (square r)

between : (v : Vector) (w h : ℤ) → Decides (is_between v w h) (IsBetween v w h)
unfolding is_between
between v w h = grind (arith, like, both, at_most_is)

pub is_in_disc-meaning : (s : Spot) (d : Disc) → IsTrue (is_in_disc s d) ↔ IsInDisc s d
unfolding is_in_disc
is_in_disc-meaning s d = grind (arith, like, both, less_is, within)

pub is_in_hole-meaning : (s : Spot) (d : Disc) → IsTrue (is_in_hole s d) ↔ IsInHole s d
unfolding is_in_hole
is_in_hole-meaning s d = grind (arith, like, both, less_is)

pub is_in_rectangle-meaning : (s : Spot) (r : Rectangle) → IsTrue (is_in_rectangle s r) ↔ IsInRectangle s r
unfolding is_in_rectangle
is_in_rectangle-meaning s r = grind (arith, like, between, both, less_is)

along : (v : Vector) (n r : ℤ) → Decides (is_along v n r) (IsAlong v n r)
unfolding is_along
along v n r = either (between v n r) (either (within (from_left_end v n) r) (within (from_right_end v n) r))

rounded : (v : Vector) (w h : ℤ) → Decides (is_rounded v w h) (IsRounded v w h)
unfolding is_rounded
rounded v w h = search (rules, either, both, at_most_is, along, less_is)

pub is_in_obround-meaning : (s : Spot) (o : Obround) → IsTrue (is_in_obround s o) ↔ IsInObround s o
unfolding is_in_obround
is_in_obround-meaning s o = grind (arith, like, rounded, both, less_is)

between_ends : (a v : Vector) → Decides (is_between_ends a v) (IsBetweenEnds a v)
unfolding is_between_ends
between_ends a v = grind (arith, like, both, less_is, at_most_is)

beside : (a v : Vector) (r : ℤ) → Decides (is_beside a v r) (IsBeside a v r)
unfolding is_beside
beside a v r = grind (arith, like, between, both, between_ends, at_most_is)

pub is_in_bar-meaning : (s : Spot) (b : Bar) → IsTrue (is_in_bar s b) ↔ IsInBar s b
unfolding is_in_bar
is_in_bar-meaning s b = grind (arith, like, beside, both, less_is)

near_segment : (s : Spot) (c : Capsule) → Decides (is_near_segment s c) (IsNearSegment s c)
unfolding is_near_segment
near_segment s c = grind (arith, either, within, beside)

pub is_in_capsule-meaning : (s : Spot) (c : Capsule) → IsTrue (is_in_capsule s c) ↔ IsInCapsule s c
unfolding is_in_capsule
is_in_capsule-meaning s c = grind (arith, like, both, less_is, near_segment)

boxed : (low high s : Spot) → Decides (is_boxed low high s) (IsInBox low high s)
unfolding is_boxed
boxed low high s = grind (arith, like, both, at_most_is)

near_way : (a v : Vector) (w h : ℤ) → Decides (is_near_way a v w h) (IsNearWay a v w h)
unfolding is_near_way
near_way a v w h = at_most_is (pos (unsigned_abs (cross a v))) (corner_reach a w h)

pub is_in_swept-meaning : (s : Spot) (r : Swept) → IsTrue (is_in_swept s r) ↔ IsInSwept s r
unfolding is_in_swept
is_in_swept-meaning s r = grind (arith, like, boxed, both, less_is, near_way)

narrow : (s e : Vector) → Decides (is_narrow s e) (IsNarrow s e)
unfolding is_narrow
narrow s e = search (rules, either, less_is, both, Decides-int_eq)

same : (s e : Vector) → Decides (int_eq s.x e.x && int_eq s.y e.y) (s ≡ e)
same s e = grind (arith, like, same_vector, both, Decides-int_eq)

sweep : (s e v : Vector) → Decides (is_in_sweep s e v) (IsInSweep s e v)
unfolding is_in_sweep
sweep s e v =
    let after_start = at_most_is (pos 0) (cross s v) in
    let before_end = at_most_is (pos 0) (cross v e) in
    either (same s e)
    (either
    (like (λ p. (p.0, p.1.0, p.1.1)) (λ p. (p.0, (p.1, p.2))) (both (narrow s e) (both after_start before_end)))
    (both (less_is (cross s e) (pos 0)) (either after_start before_end)))

swept : (ccw : Bool) (s e v : Vector) → Decides (is_swept ccw s e v) (IsSwept ccw s e v)
unfolding is_swept
swept ccw s e v = grind (arith, sweep)

near_circle : (p q r : ℤ) → Decides (is_near_circle p q r) (IsNearCircle p q r)
unfolding is_near_circle
near_circle p q r = grind (arith, either, at_most_is)

on_arc : (s e v : Vector) (a : Arc) → Decides (is_on_arc s e v a) (IsOnArc s e v a)
unfolding is_on_arc
on_arc s e v a = both (swept a.ccw s e v) (near_circle (dot v v) (dot s s) a.width.0)

near_arc : (s : Spot) (a : Arc) → Decides (is_near_arc s a) (IsNearArc s a)
unfolding is_near_arc
near_arc s a = grind (arith, either, within, on_arc)

pub is_in_arc-meaning : (s : Spot) (a : Arc) → IsTrue (is_in_arc s a) ↔ IsInArc s a
unfolding is_in_arc
is_in_arc-meaning s a = grind (arith, like, both, less_is, near_arc)

pub is_in_contour-meaning : (s : Spot) (c : Contour) → IsTrue (is_in_contour s c) ↔ IsInContour s c
unfolding is_in_contour
is_in_contour-meaning s c = grind (arith, Decides-eqb)
