-- Whether a place is in a shape, as tests that compute, for those who define a picture by them.
-- Each says what the relation of its name says (`TestsLaw`).
use Rattle.std.specs.Prelude.{◌↔◌, ◌+◌, ◌%◌, ℤ, pos, ◌+ℤ◌, ◌-ℤ◌, ◌*ℤ◌, Bool, true, false, ◌&&◌, ◌||◌, IsTrue, count_by}
use Rattle.std.specs.Prelude.{nat_eq, int_le, int_lt, unsigned_abs}
use Rattle.std.specs.Ordering.{int_eq}
use Rattle.cam_units.specs.declared.point.Spot.{Spot}
use Rattle.cam_shapes.specs.declared.vector.Vector.{Vector}
use Rattle.cam_shapes.specs.declared.disc.Disc.{Disc}
use Rattle.cam_shapes.specs.declared.rectangle.Rectangle.{Rectangle}
use Rattle.cam_shapes.specs.declared.obround.Obround.{Obround}
use Rattle.cam_shapes.specs.declared.bar.Bar.{Bar}
use Rattle.cam_shapes.specs.declared.capsule.Capsule.{Capsule}
use Rattle.cam_shapes.specs.declared.arc.Arc.{Arc}
use Rattle.cam_shapes.specs.declared.swept.Swept.{Swept}
use Rattle.cam_shapes.specs.declared.contour.Contour.{Contour}
use Rattle.cam_shapes.specs.Plane.{cross, dot, seen_from, square, way}
use Rattle.cam_shapes.specs.Disc.{IsInDisc, IsInHole}
use Rattle.cam_shapes.specs.Box.{from_left_end, from_right_end, swapped, IsInObround, IsInRectangle}
use Rattle.cam_shapes.specs.Bar.{IsInBar, IsInCapsule}
use Rattle.cam_shapes.specs.Arc.{IsInArc}
use Rattle.cam_shapes.specs.Edge.{crosses_ray}
use Rattle.cam_shapes.specs.Cap.{is_in_cap}
use Rattle.cam_shapes.specs.Contour.{caps_of, edges_of, IsInContour}
use Rattle.cam_shapes.specs.Sides.{change_side}
use Rattle.cam_shapes.specs.Swept.{corner_reach, high_corner, low_corner, IsInSwept}

-- a way that is at most r long
unfoldable pub is_within : Vector → ℤ → Bool
is_within v r = int_le (dot v v) (square r)

-- a way that leads at most w to the left or right, and at most h up or down
unfoldable pub is_between : Vector → ℤ → ℤ → Bool
is_between v w h = int_le (pos (unsigned_abs v.x)) w && int_le (pos (unsigned_abs v.y)) h

-- the closed disc, and the open one of a hole
unfoldable pub is_in_disc : Spot → Disc → Bool
is_in_disc s d = int_lt (pos 0) d.diameter.0 && is_within (seen_from d.centre s) d.diameter.0

unfoldable pub is_in_hole : Spot → Disc → Bool
is_in_hole s d =
    let v = seen_from d.centre s in
    int_lt (pos 0) d.diameter.0 && int_lt (dot v v) (square d.diameter.0)

-- the closed rectangle
unfoldable pub is_in_rectangle : Spot → Rectangle → Bool
is_in_rectangle s r =
    int_lt (pos 0) r.width.0 && (int_lt (pos 0) r.height.0 && is_between (seen_from r.centre s) r.width.0 r.height.0)

-- a rectangle that reaches n to the left and to the right, with a disc of radius r about the middle
-- of each end
unfoldable pub is_along : Vector → ℤ → ℤ → Bool
is_along v n r = is_between v n r || (is_within (from_left_end v n) r || is_within (from_right_end v n) r)

-- of a wide obround, or of a high one
unfoldable pub is_rounded : Vector → ℤ → ℤ → Bool
is_rounded v w h = (int_le h w && is_along v (w -ℤ h) h) || (int_lt w h && is_along (swapped v) (h -ℤ w) w)

-- the closed rectangle whose shorter ends are half circles
unfoldable pub is_in_obround : Spot → Obround → Bool
is_in_obround s o =
    int_lt (pos 0) o.width.0 && (int_lt (pos 0) o.height.0 && is_rounded (seen_from o.centre s) o.width.0 o.height.0)

-- v, seen from the start of a way a of some length, is between the lines across its ends
unfoldable pub is_between_ends : Vector → Vector → Bool
is_between_ends a v = int_lt (pos 0) (dot a a) && (int_le (pos 0) (dot a v) && int_le (dot a v) (dot a a))

-- v is between the ends of a way a, and at most r from its line
unfoldable pub is_beside : Vector → Vector → ℤ → Bool
is_beside a v r = is_between_ends a v && int_le (square (cross a v)) (square r *ℤ dot a a)

-- the rectangle without round ends about a line
unfoldable pub is_in_bar : Spot → Bar → Bool
is_in_bar s b = int_lt (pos 0) b.width.0 && is_beside (way b.from b.to) (seen_from b.from s) b.width.0

-- in a disc about an end, or between the ends
unfoldable pub is_near_segment : Spot → Capsule → Bool
is_near_segment s c =
    is_within (seen_from c.from s) c.width.0
    || (is_within (seen_from c.to s) c.width.0 || is_beside (way c.from c.to) (seen_from c.from s) c.width.0)

-- the stroke of a round tool along a straight line
unfoldable pub is_in_capsule : Spot → Capsule → Bool
is_in_capsule s c = int_lt (pos 0) c.width.0 && is_near_segment s c

-- the place lies in the box between two corners
unfoldable pub is_boxed : Spot → Spot → Spot → Bool
is_boxed low high s = (int_le low.x s.x && int_le s.x high.x) && (int_le low.y s.y && int_le s.y high.y)

-- v is no farther from the line of a way a than the corners of a rectangle about the way's start
unfoldable pub is_near_way : Vector → Vector → ℤ → ℤ → Bool
is_near_way a v w h = int_le (pos (unsigned_abs (cross a v))) (corner_reach a w h)

-- the stroke of a rectangle along a straight line
unfoldable pub is_in_swept : Spot → Swept → Bool
is_in_swept s r =
    (int_lt (pos 0) r.width.0 && int_lt (pos 0) r.height.0)
    && (is_boxed (low_corner r) (high_corner r) s
    && is_near_way (way r.from r.to) (seen_from r.from s) r.width.0 r.height.0)

-- the sweep counterclockwise from s to e is at most a half turn
unfoldable pub is_narrow : Vector → Vector → Bool
is_narrow s e = int_lt (pos 0) (cross s e) || (int_eq (cross s e) (pos 0) && int_lt (dot s e) (pos 0))

-- the sweep counterclockwise from s to e holds v: it is a full turn where s is e
unfoldable pub is_in_sweep : Vector → Vector → Vector → Bool
is_in_sweep s e v =
    (int_eq s.x e.x && int_eq s.y e.y)
    || ((is_narrow s e && (int_le (pos 0) (cross s v) && int_le (pos 0) (cross v e)))
    || (int_lt (cross s e) (pos 0) && (int_le (pos 0) (cross s v) || int_le (pos 0) (cross v e))))

-- a clockwise sweep is the counterclockwise one from its end to its start
unfoldable pub is_swept : Bool → Vector → Vector → Vector → Bool
is_swept true s e v = is_in_sweep s e v
is_swept false s e v = is_in_sweep e s v

-- a place is at most r from a circle; p and q are the squares of its distance from the centre and
-- of the circle's radius
unfoldable pub is_near_circle : ℤ → ℤ → ℤ → Bool
is_near_circle p q r =
    int_le (p +ℤ q) (square r) || int_le (square (p +ℤ q -ℤ square r)) (pos 4 *ℤ p *ℤ q)

-- s, e and v are the start, the end and the place as they are seen from the centre
unfoldable pub is_on_arc : Vector → Vector → Vector → Arc → Bool
is_on_arc s e v a = is_swept a.ccw s e v && is_near_circle (dot v v) (dot s s) a.width.0

-- in a disc about an end, or in the sweep and near the circle through the start
unfoldable pub is_near_arc : Spot → Arc → Bool
is_near_arc s a =
    is_within (seen_from a.from s) a.width.0
    || (is_within (seen_from a.to s) a.width.0
    || is_on_arc (way a.centre a.from) (way a.centre a.to) (seen_from a.centre s) a)

-- the stroke of a round tool along an arc
unfoldable pub is_in_arc : Spot → Arc → Bool
is_in_arc s a = int_lt (pos 0) a.width.0 && is_near_arc s a

-- the edges that cross the ray going right from the place, and the caps that hold the place, are
-- odd in number, all together
unfoldable pub is_in_contour : Spot → Contour → Bool
is_in_contour s c = nat_eq ((count_by (crosses_ray s) (edges_of c) + count_by (is_in_cap s) (caps_of c)) % 2) 1

-- a test holds exactly where its relation does
pub record TestsLaw : Type 0 where
  pub disc : (s : Spot) (d : Disc) → IsTrue (is_in_disc s d) ↔ IsInDisc s d
  pub hole : (s : Spot) (d : Disc) → IsTrue (is_in_hole s d) ↔ IsInHole s d
  pub rectangle : (s : Spot) (r : Rectangle) → IsTrue (is_in_rectangle s r) ↔ IsInRectangle s r
  pub obround : (s : Spot) (o : Obround) → IsTrue (is_in_obround s o) ↔ IsInObround s o
  pub bar : (s : Spot) (b : Bar) → IsTrue (is_in_bar s b) ↔ IsInBar s b
  pub capsule : (s : Spot) (c : Capsule) → IsTrue (is_in_capsule s c) ↔ IsInCapsule s c
  pub swept : (s : Spot) (r : Swept) → IsTrue (is_in_swept s r) ↔ IsInSwept s r
  pub arc : (s : Spot) (a : Arc) → IsTrue (is_in_arc s a) ↔ IsInArc s a
  pub contour : (s : Spot) (c : Contour) → IsTrue (is_in_contour s c) ↔ IsInContour s c
  pub sides : (s : Spot) (c : Contour) → IsTrue (change_side s c.start c.start c.segs) ↔ IsInContour s c
