-- a place that a leaf covers lies in its box
use Rattle.std.proofs.Common.{
  ◌≡◌,
  ℕ,
  ◌+◌,
  ◌*◌,
  ◌≤◌,
  IsTrue,
  ℤ,
  pos,
  ◌+ℤ◌,
  ◌≤ℤ◌,
  ◌<ℤ◌,
  ◌⊎◌,
  inl,
  inr,
  List,
  ◌∷◌,
  get_or,
  map,
  sym,
  ap,
  subst,
  ◌∙◌,
  arith,
}
use Rattle.std.specs.Prelude.{Any}
use Rattle.std.specs.List.{All}
use Rattle.std.specs.Int.RustNames.{unsigned_abs}
use Rattle.std.proofs.lemmas.Int.{ints}
use Rattle.std.proofs.lemmas.List.Elements.{All-tail}
use Rattle.cam_units.specs.Boxes.{Holds, join_of}
use Rattle.cam_units.specs.declared.bounds.Bounds.{Bounds}
use Rattle.cam_units.specs.declared.bounds.Bounds.TheVariants.{Empty, Closed}
use Rattle.cam_units.specs.declared.point.Point.{Point}
use Rattle.cam_units.specs.declared.point.Spot.{Spot}
use Rattle.cam_units.proofs.BoxLaws.{join_least}
use Rattle.cam_shapes.specs.declared.arc.Arc.{Arc}
use Rattle.cam_shapes.specs.declared.cap.Cap.{Cap}
use Rattle.cam_shapes.specs.declared.capsule.Capsule.{Capsule}
use Rattle.cam_shapes.specs.declared.contour.Contour.{Contour}
use Rattle.cam_shapes.specs.declared.swept.Swept.{Swept}
use Rattle.cam_shapes.specs.Arc.{IsInArc}
use Rattle.cam_shapes.specs.Bar.{IsInCapsule, IsNearSegment}
use Rattle.cam_shapes.specs.Cap.{is_in_cap}
use Rattle.cam_shapes.specs.Contour.{IsInContour, caps_of, end_of}
use Rattle.cam_shapes.specs.Plane.{dot, place_of, way}
use Rattle.cam_shapes.proofs.Boxes.{contour_box}
use Rattle.cam_shapes.proofs.Caps.{cap_square}
use Rattle.cam_shapes.specs.Swept.{IsInSwept}
use Rattle.cam_shapes.proofs.Strokes.{arc_square}
use Rattle.cam_shapes.proofs.SweptLaws.{box as swept_box}
use Rattle.cam_apertures.specs.Primitives.{box_about, box_of_point}
use Rattle.cam_apertures.proofs.CoverLaws.{box_law}
use Rattle.cam_apertures.proofs.ShapeBoxes.{bar_box, disc_box, join_found, rectangle_box, within_box}
use Rattle.cam_objects.specs.Bounds.{bounds_of, box_of_all, box_of_cap, box_of_contour, box_of_shape, circle_square, moved, root, widened}
use Rattle.cam_objects.specs.Image.{Covers, IsUncovered, relative}
use Rattle.cam_objects.specs.Leaves.{Leaf, Shape, Stamp, Stroke, Swept as SweptLeaf, Sweep, Filled, Drilled}
use Rattle.cam_objects.specs.Topmost.{IsCoveredBy}
use Rattle.cam_objects.proofs.BoxLimits.{IsBoxWithin, within_about, within_join, within_less, within_point}
use Rattle.cam_objects.proofs.CopyBoxes.{unmapped}
use Rattle.cam_objects.proofs.DrillBoxes.{widened_join}
use Rattle.cam_objects.proofs.Roots.{root_square}

holds_moved : (o : Point) (b : Bounds) (s : Spot) → Holds b (relative o s) → Holds (moved o b) s
holds_moved o b s h = grind (arith, ints)

-- how far points lie from the origin
abbrev far : Point → ℕ
far p = unsigned_abs p.x + unsigned_abs p.y

point_within : (n : ℕ) (p : Point) → 2 * far p ≤ n → IsBoxWithin n (box_of_point p)
point_within n p h = within_less (2 * far p) n (box_of_point p) h (within_point (far p) p (omega arith) (omega arith))

at_least : (w : ℤ) → pos 0 <ℤ w → pos 0 ≤ℤ w
at_least w h = omega (arith, ints)

at_most : (w : ℤ) → pos 0 <ℤ w → w ≤ℤ pos (unsigned_abs w)
at_most w h = omega (arith, ints)

-- the middle of a box lies in it
about_itself : (p : Point) (w h : ℤ) → pos 0 <ℤ w → pos 0 <ℤ h → Holds (box_about (place_of p) w h) (place_of p)
about_itself p w h wide high = grind (arith, ints)

-- the box of both ends, widened, holds the boxes about them
ends_widened : (from to : Point) (w : ℤ) → pos 0 <ℤ w
    → widened w (join_of (box_of_point from) (box_of_point to)) ≡ join_of (box_about (place_of from) w w) (box_about (place_of to) w w)
ends_widened from to w some =
    let n = 2 * far from + 2 * far to in
    widened_join n (unsigned_abs w) w (box_of_point from) (box_of_point to) (at_least w some) (at_most w some)
    (point_within n from (omega arith)) (point_within n to (omega arith))

in_stroke : (c : Capsule) (s : Spot) → IsInCapsule s c → Holds (box_of_shape (Stroke c)) s
in_stroke c s h =
    let w = c.width.0 in
    let from = box_about (place_of c.from) w w in
    let to = box_about (place_of c.to) w w in
    let around = join_least from to in
    subst (λ b. Holds b s) (sym (ends_widened c.from c.to w h.wide))
    (by around.first around.second h.near)
  where
    by : ((s : Spot) → Holds (box_about (place_of c.from) c.width.0 c.width.0) s
        → Holds (join_of (box_about (place_of c.from) c.width.0 c.width.0) (box_about (place_of c.to) c.width.0 c.width.0)) s)
        → ((s : Spot) → Holds (box_about (place_of c.to) c.width.0 c.width.0) s
        → Holds (join_of (box_about (place_of c.from) c.width.0 c.width.0) (box_about (place_of c.to) c.width.0 c.width.0)) s)
        → IsNearSegment s c
        → Holds (join_of (box_about (place_of c.from) c.width.0 c.width.0) (box_about (place_of c.to) c.width.0 c.width.0)) s
    by first second (inl near) = first s (disc_box c.from s c.width (record { some = h.wide; near = near }))
    by first second (inr (inl near)) = second s (disc_box c.to s c.width (record { some = h.wide; near = near }))
    by first second (inr (inr beside)) = bar_box c.from c.to c.width s (record { wide = h.wide; beside = beside })

-- ---- rectangles

in_swept : (r : Swept) (s : Spot) → IsInSwept s r → Holds (box_of_shape (SweptLeaf r)) s
in_swept r s h =
    let from = box_about (place_of r.from) r.width.0 r.height.0 in
    let to = box_about (place_of r.to) r.width.0 r.height.0 in
    let around = join_least from to in
    by (join_of from to) around.first around.second
  where
    by : (b : Bounds)
        → ((q : Spot) → Holds (box_about (place_of r.from) r.width.0 r.height.0) q → Holds b q)
        → ((q : Spot) → Holds (box_about (place_of r.to) r.width.0 r.height.0) q → Holds b q)
        → Holds b s
    by Empty first second = first (place_of r.from) (about_itself r.from r.width.0 r.height.0 h.wide h.high)
    by (Closed low high) first second =
        swept_box low high r
        (λ q on. first q (rectangle_box r.from q r.width r.height on))
        (λ q on. second q (rectangle_box r.to q r.width r.height on)) s h

-- ---- arcs

beyond_root : (z : ℤ) → z <ℤ pos ((root (unsigned_abs z) + 1) * (root (unsigned_abs z) + 1))
beyond_root z = omega (arith, ints, (root_square (unsigned_abs z)).1)

up_to_root : (z : ℤ) → z ≤ℤ pos ((root (unsigned_abs z) + 1) * (root (unsigned_abs z) + 1))
up_to_root z = omega (arith, ints, (root_square (unsigned_abs z)).1)

wider : (p : Point) (s : Spot) (m w : ℤ) → Holds (box_about (place_of p) (m +ℤ w) (m +ℤ w)) s
    → Holds (widened w (box_about (place_of p) m m)) s
wider p s m w h = grind (arith, ints)

sweep_widened : (a : Arc) → pos 0 <ℤ a.width.0
    → box_of_shape (Sweep a) ≡ join_of (widened a.width.0 (circle_square a.centre a.from))
    (join_of (box_about (place_of a.from) a.width.0 a.width.0) (box_about (place_of a.to) a.width.0 a.width.0))
sweep_widened a some =
    let w = a.width.0 in
    let m = root (unsigned_abs (dot (way a.centre a.from) (way a.centre a.from))) + 1 in
    let n = 2 * far a.centre + m + 2 * far a.from + 2 * far a.to in
    let circle = circle_square a.centre a.from in
    let ends = join_of (box_of_point a.from) (box_of_point a.to) in
    widened_join n (unsigned_abs w) w circle ends (at_least w some) (at_most w some)
    (within_less (2 * far a.centre + m) n circle (omega arith)
    (within_about (far a.centre) m a.centre (pos m) (pos m) (omega arith) (omega arith) (omega (arith, ints)) (omega (arith, ints))
    (omega (arith, ints)) (omega (arith, ints))))
    (within_join n (box_of_point a.from) (box_of_point a.to) (point_within n a.from (omega arith)) (point_within n a.to (omega arith)))
    ∙ ap (join_of (widened w circle)) (ends_widened a.from a.to w some)

in_sweep : (a : Arc) (s : Spot) → IsInArc s a → Holds (box_of_shape (Sweep a)) s
in_sweep a s h =
    let w = a.width.0 in
    let m = root (unsigned_abs (dot (way a.centre a.from) (way a.centre a.from))) + 1 in
    let circle = widened w (circle_square a.centre a.from) in
    let from = box_about (place_of a.from) w w in
    let to = box_about (place_of a.to) w w in
    let all = join_least circle (join_of from to) in
    let ends = join_least from to in
    let place : Holds (join_of circle (join_of from to)) s =
    elim (arc_square s a m (beyond_root (dot (way a.centre a.from) (way a.centre a.from))) h) [
      | inl between ↦ all.first s (wider a.centre s (pos m) w
          (within_box a.centre s (pos m +ℤ w) (pos m +ℤ w) between.across between.along))
      | inr (inl near) ↦ all.second s (ends.first s (disc_box a.from s a.width (record { some = h.wide; near = near })))
      | inr (inr near) ↦ all.second s (ends.second s (disc_box a.to s a.width (record { some = h.wide; near = near })))
    ] in
    subst (λ b. Holds b s) (sym (sweep_widened a h.wide)) place

-- ---- contours

in_cap : (c : Cap) (s : Spot) → IsTrue (is_in_cap s c) → Holds (box_of_cap c) s
in_cap c s h =
    let z = dot (way c.centre c.from) (way c.centre c.from) in
    let m = root (unsigned_abs z) + 1 in
    let k = cap_square s c m (up_to_root z) h in
    within_box c.centre s (pos m) (pos m) k.across k.along

in_points : (b : Bounds) (c : Contour) (s : Spot) → Holds b (place_of c.start) → All (λ seg. Holds b (place_of (end_of seg))) c.segs
    → IsInContour s c
    → Holds b s ⊎ Any (λ cap. IsTrue (is_in_cap s cap)) (caps_of c)
in_points b c s start ends inside = grind (arith, contour_box)

same : (z : ℤ) → z ≤ℤ z
same z = omega (arith, ints)

point_place : (p : Point) → Holds (box_of_point p) (place_of p)
point_place p = record { left = same _; right = same _; below = same _; above = same _ }

in_contour : (c : Contour) (s : Spot) → IsInContour s c → Holds (box_of_contour c) s
in_contour c s h =
    let points = box_of_all box_of_point (c.start ∷ map end_of c.segs) in
    let caps = box_of_all box_of_cap (caps_of c) in
    let all = join_least points caps in
    let held : All (λ p. Holds points (place_of p)) (c.start ∷ map end_of c.segs)
    =
    λ k d below. join_found box_of_point Empty (c.start ∷ map end_of c.segs) k d
    (place_of (get_or (c.start ∷ map end_of c.segs) k d)) below (point_place (get_or (c.start ∷ map end_of c.segs) k d)) in
    elim (in_points points c s (held 0 c.start (omega arith))
    (unmapped (λ p. Holds points (place_of p)) end_of c.segs
    (All-tail (λ p. Holds points (place_of p)) c.start (map end_of c.segs) held)) h) [
      | inl inside ↦ all.first s inside
      | inr any ↦ all.second s
          (join_found box_of_cap Empty (caps_of c) any.0 any.1 s any.2
          (subst (λ y. Holds (box_of_cap y) s) (sym any.3) (in_cap any.1 s any.4)))
    ]

-- ---- leaves

pub covered_box : (shape : Shape) (s : Spot) → Covers shape s → Holds (box_of_shape shape) s
covered_box (Stamp a t at) s h = holds_moved at _ s (box_law a t (relative at s) h)
covered_box (Stroke c) s h = in_stroke c s h
covered_box (SweptLeaf r) s h = in_swept r s h
covered_box (Sweep a) s h = in_sweep a s h
covered_box (Filled c) s h = in_contour c s h
covered_box (Drilled d) s h = disc_box d.centre s d.diameter h

pub inside_box : (leaves : List Leaf) (s : Spot) → IsCoveredBy leaves s → Holds (bounds_of leaves) s
inside_box leaves s any =
    join_found (λ l. box_of_shape l.shape) Empty leaves any.0 any.1 s any.2
    (subst (λ (l : Leaf). Holds (box_of_shape l.shape) s) (sym any.3) (covered_box any.1.shape s any.4))

pub outside_box : (leaves : List Leaf) (s : Spot) → (Holds (bounds_of leaves) s → ⊥) → IsUncovered leaves s
outside_box leaves s h = λ k d below on.
    h (join_found (λ l. box_of_shape l.shape) Empty leaves k d s below (covered_box (get_or leaves k d).shape s on))
