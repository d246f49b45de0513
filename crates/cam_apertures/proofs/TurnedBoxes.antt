-- Boxes of turned shapes are turned boxes.
use Rattle.std.proofs.Common.{◌≡◌, Bool, cond, ◌||◌, ℤ, neg_ℤ, List, [], ◌∷◌, map, refl, ap, sym, ◌∙◌, arith}
use Rattle.std.specs.Prelude.{fold}
use Rattle.std.specs.Int.{int_min, int_max}
use Rattle.std.specs.Int.RustNames.{int_lt}
use Rattle.std.proofs.lemmas.Int.{ints, clamps}
use Rattle.cam_units.specs.declared.bounds.Bounds.{Bounds}
use Rattle.cam_units.specs.declared.bounds.Bounds.TheVariants.{Empty}
use Rattle.cam_units.specs.declared.length.Nm.{Nm}
use Rattle.cam_units.specs.declared.point.Point.{Point}
use Rattle.cam_units.specs.declared.turn.Turn.{Turn}
use Rattle.cam_units.specs.declared.turn.Turn.TheVariants.{R0, R90, R180, R270, M0, M90, M180, M270}
use Rattle.cam_units.specs.Boxes.{has_no_place, join_of, span_of}
use Rattle.cam_shapes.specs.Plane.{place_of}
use Rattle.cam_macros.specs.declared.primitive.MacroPrimitive.{MacroPrimitive}
use Rattle.cam_macros.specs.declared.primitive.PrimShape.{PrimShape}
use Rattle.cam_macros.specs.declared.primitive.PrimShape.TheVariants.{Disc, Bar, Rect, Outline}
use Rattle.cam_apertures.specs.Primitives.{box_about, box_of_point, box_of_prims, primitive_box}
use Rattle.cam_apertures.specs.Turned.{exchanges_axes, turned_box, turned_height, turned_point, turned_prim, turned_shape, turned_width}
use Rattle.cam_apertures.proofs.Corners.{same_box}

negated : (a b : ℤ) → int_lt (neg_ℤ a) (neg_ℤ b) ≡ int_lt b a
negated a b = grind (arith, ints)

negated_max : (a b : ℤ) → neg_ℤ (int_max a b) ≡ int_min (neg_ℤ a) (neg_ℤ b)
negated_max a b = omega (arith, ints, clamps)

negated_min : (a b : ℤ) → neg_ℤ (int_min a b) ≡ int_max (neg_ℤ a) (neg_ℤ b)
negated_min a b = omega (arith, ints, clamps)

exchanged : (a b : Bool) → (a || b) ≡ (b || a)
exchanged a b = grind arith

both : (a b c d : Bool) → a ≡ c → b ≡ d → (a || b) ≡ (c || d)
both a b c d e f = λ i. e i || f i

-- a turn keeps whether a box has a place
pub empty_turned : (t : Turn) (b : Bounds) → has_no_place (turned_box t b) ≡ has_no_place b
empty_turned t b = grind (arith, both, negated, exchanged)

beside_none : (b : Bounds) → span_of b Empty ≡ b
beside_none b = grind arith

-- the span of two boxes turns with them
span_turned : (t : Turn) (a b : Bounds) → turned_box t (span_of a b) ≡ span_of (turned_box t a) (turned_box t b)
span_turned t a b = grind (arith, beside_none, same_box, negated_max, negated_min)

turned_either : (t : Turn) (v : Bool) (x y : Bounds) → turned_box t (cond v x y) ≡ cond v (turned_box t x) (turned_box t y)
turned_either t v x y = grind arith

-- a join turns with its boxes
pub join_turned : (t : Turn) (a b : Bounds) → turned_box t (join_of a b) ≡ join_of (turned_box t a) (turned_box t b)
join_turned t a b = grind (arith, turned_either, span_turned, empty_turned)

-- a join of many boxes turns with them
pub joins_turned : {X : Type 0} (t : Turn) (f : X → Bounds) (h : X → X) → ((x : X) → f (h x) ≡ turned_box t (f x)) → (z : Bounds) (xs : List X)
    → fold (λ b x. join_of b (f x)) (turned_box t z) (map h xs) ≡ turned_box t (fold (λ b x. join_of b (f x)) z xs)
joins_turned t f h same z [] = refl
joins_turned t f h same z (x ∷ xs) =
    ap (λ b. fold (λ b x. join_of b (f x)) b (map h xs)) (ap (λ y. join_of (turned_box t z) y) (same x) ∙ sym (join_turned t z (f x)))
    ∙ joins_turned t f h same (join_of z (f x)) xs

abbrev about : Point → Nm → Nm → Bounds
about p w h = box_about (place_of p) w.0 h.0

-- a box about a point turns with it
pub about_turned : (t : Turn) (p : Point) (w h : Nm) → about (turned_point t p) (turned_width t w h) (turned_height t w h) ≡ turned_box t (about p w h)
about_turned R0 p w h = same_box _ _ _ _ _ _ _ _ (omega (arith, ints)) (omega (arith, ints)) (omega (arith, ints)) (omega (arith, ints))
about_turned R90 p w h = same_box _ _ _ _ _ _ _ _ (omega (arith, ints)) (omega (arith, ints)) (omega (arith, ints)) (omega (arith, ints))
about_turned R180 p w h = same_box _ _ _ _ _ _ _ _ (omega (arith, ints)) (omega (arith, ints)) (omega (arith, ints)) (omega (arith, ints))
about_turned R270 p w h = same_box _ _ _ _ _ _ _ _ (omega (arith, ints)) (omega (arith, ints)) (omega (arith, ints)) (omega (arith, ints))
about_turned M0 p w h = same_box _ _ _ _ _ _ _ _ (omega (arith, ints)) (omega (arith, ints)) (omega (arith, ints)) (omega (arith, ints))
about_turned M90 p w h = same_box _ _ _ _ _ _ _ _ (omega (arith, ints)) (omega (arith, ints)) (omega (arith, ints)) (omega (arith, ints))
about_turned M180 p w h = same_box _ _ _ _ _ _ _ _ (omega (arith, ints)) (omega (arith, ints)) (omega (arith, ints)) (omega (arith, ints))
about_turned M270 p w h = same_box _ _ _ _ _ _ _ _ (omega (arith, ints)) (omega (arith, ints)) (omega (arith, ints)) (omega (arith, ints))

pub point_turned : (t : Turn) (p : Point) → box_of_point (turned_point t p) ≡ turned_box t (box_of_point p)
point_turned R0 p = same_box _ _ _ _ _ _ _ _ (omega (arith, ints)) (omega (arith, ints)) (omega (arith, ints)) (omega (arith, ints))
point_turned R90 p = same_box _ _ _ _ _ _ _ _ (omega (arith, ints)) (omega (arith, ints)) (omega (arith, ints)) (omega (arith, ints))
point_turned R180 p = same_box _ _ _ _ _ _ _ _ (omega (arith, ints)) (omega (arith, ints)) (omega (arith, ints)) (omega (arith, ints))
point_turned R270 p = same_box _ _ _ _ _ _ _ _ (omega (arith, ints)) (omega (arith, ints)) (omega (arith, ints)) (omega (arith, ints))
point_turned M0 p = same_box _ _ _ _ _ _ _ _ (omega (arith, ints)) (omega (arith, ints)) (omega (arith, ints)) (omega (arith, ints))
point_turned M90 p = same_box _ _ _ _ _ _ _ _ (omega (arith, ints)) (omega (arith, ints)) (omega (arith, ints)) (omega (arith, ints))
point_turned M180 p = same_box _ _ _ _ _ _ _ _ (omega (arith, ints)) (omega (arith, ints)) (omega (arith, ints)) (omega (arith, ints))
point_turned M270 p = same_box _ _ _ _ _ _ _ _ (omega (arith, ints)) (omega (arith, ints)) (omega (arith, ints)) (omega (arith, ints))

either_same : (v : Bool) (w : Nm) → cond v w w ≡ w
either_same v w = grind arith

-- a box of equal sides about a point
pub square_turned : (t : Turn) (p : Point) (w : Nm) → about (turned_point t p) w w ≡ turned_box t (about p w w)
square_turned t p w =
    sym (ap (λ v. about (turned_point t p) v v) (either_same (exchanges_axes t) w)) ∙ about_turned t p w w

-- the box of a turned shape
pub shape_turned : (t : Turn) (s : PrimShape) → primitive_box (turned_shape t s) ≡ turned_box t (primitive_box s)
shape_turned t (Disc centre diameter) = square_turned t centre diameter
shape_turned t (Bar from to width) = grind (arith, square_turned, join_turned)
shape_turned t (Rect centre width height) = about_turned t centre width height
shape_turned t (Outline points) = joins_turned t box_of_point (turned_point t) (point_turned t) Empty points

-- the box of turned primitives
pub prims_turned : (t : Turn) (prims : List MacroPrimitive) → box_of_prims (map (turned_prim t) prims) ≡ turned_box t (box_of_prims prims)
prims_turned t prims = joins_turned t (λ p. primitive_box p.shape) (turned_prim t) (λ p. shape_turned t p.shape) Empty prims
