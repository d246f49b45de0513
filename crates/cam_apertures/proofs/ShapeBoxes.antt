-- A place in a shape lies in the shape's box.
use Rattle.std.proofs.Common.{rules}
use Rattle.std.proofs.Common.{◌≡◌, ℕ, zero, suc, ◌+◌, ◌%◌, ◌<◌, Bool, false, cond, ℤ, pos, ◌+ℤ◌, ◌-ℤ◌, ◌≤ℤ◌, ◌<ℤ◌, inl, inr, List, [], ◌∷◌, ◌++◌, length, get_or, All, refl, sym, subst, arith}
use Rattle.std.specs.Prelude.{fold, Any, ◌||◌}
use Rattle.std.specs.Int.{int_min, int_max}
use Rattle.std.specs.Int.RustNames.{int_lt, unsigned_abs}
use Rattle.std.proofs.lemmas.Int.{ints, clamps}
use Rattle.std.proofs.lemmas.List.Elements.{All-map, All-tail}
use Rattle.cam_units.specs.declared.bounds.Bounds.{Bounds}
use Rattle.cam_units.specs.declared.bounds.Bounds.TheVariants.{Empty}
use Rattle.cam_units.specs.declared.length.Nm.{Nm}
use Rattle.cam_units.specs.declared.point.Point.{Point}
use Rattle.cam_units.specs.declared.point.Spot.{Spot}
use Rattle.cam_units.specs.Boxes.{Holds, has_no_place, join_of, span_of}
use Rattle.cam_units.proofs.BoxLaws.{join_least}
use Rattle.cam_shapes.specs.declared.contour.Contour.{Contour}
use Rattle.cam_shapes.specs.declared.segments.Seg.TheVariants.{Line}
use Rattle.cam_shapes.specs.declared.vector.Vector.{Vector}
use Rattle.cam_shapes.specs.Bar.{IsInBar}
use Rattle.cam_shapes.specs.Box.{from_left_end, from_right_end, swapped, IsAlong, IsInObround, IsInRectangle}
use Rattle.cam_shapes.specs.Contour.{caps_from, caps_of, end_of, IsInContour}
use Rattle.cam_shapes.specs.Disc.{IsInDisc}
use Rattle.cam_shapes.specs.Outline.{lines_to, outline_of}
use Rattle.cam_shapes.specs.Plane.{place_of, seen_from, way}
use Rattle.cam_shapes.proofs.Boxes.{contour_box}
use Rattle.cam_shapes.proofs.Parity.{count_by-cons, one_if}
use Rattle.cam_shapes.proofs.Reaches.{gap, leg, other_leg, reached}
use Rattle.cam_macros.specs.declared.primitive.MacroPrimitive.{MacroPrimitive}
use Rattle.cam_macros.specs.declared.primitive.PrimShape.{PrimShape}
use Rattle.cam_macros.specs.declared.primitive.PrimShape.TheVariants.{Outline}
use Rattle.cam_apertures.specs.Cover.{IsInShape, IsExposed}
use Rattle.cam_apertures.specs.Primitives.{box_about, box_of_point, box_of_prims, primitive_box}

-- a place that is so far from a point lies in the box about the point
pub within_box : (p : Point) (s : Spot) (w h : ℤ) → pos (unsigned_abs (seen_from p s).x) ≤ℤ w → pos (unsigned_abs (seen_from p s).y) ≤ℤ h
    → Holds (box_about (place_of p) w h) s
within_box p s w h a b = search (rules, ints)

pub disc_box : (p : Point) (s : Spot) (d : Nm) → IsInDisc s (record { centre = p; diameter = d }) → Holds (box_about (place_of p) d.0 d.0) s
disc_box p s d h =
    let v = seen_from p s in
    let x = leg v d.0 h.near in
    let y = other_leg v d.0 h.near in
    within_box p s d.0 d.0 (omega (arith, ints, h.some, x)) (omega (arith, ints, h.some, y))

pub rectangle_box : (p : Point) (s : Spot) (w h : Nm) → IsInRectangle s (record { centre = p; width = w; height = h }) → Holds (box_about (place_of p) w.0 h.0) s
rectangle_box p s w h k = within_box p s w.0 h.0 k.between.across k.between.along

pub less_at_most : (a b : ℤ) → a <ℤ b → a ≤ℤ b
less_at_most a b h = omega (arith, ints)

no_any : {X : Type 0} {P : X → Type 0} → Any P [] → ⊥
no_any h = absurd (omega (arith, h.2))

at_least : (z : ℤ) → pos 0 <ℤ z → pos 0 ≤ℤ z
at_least z h = omega (arith, ints)

not_less : (a b : ℤ) → b ≤ℤ a → int_lt a b ≡ false
not_less a b h = grind (arith, ints)

neither : (a b : Bool) → a ≡ false → b ≡ false → (a || b) ≡ false
neither a b e f = rw (e, f) refl

has_place_about : (s : Spot) (w : ℤ) → pos 0 ≤ℤ w → has_no_place (box_about s w w) ≡ false
has_place_about s w h = grind (arith, neither, not_less, ints)

spanned : (a b : Bounds) (s : Spot) → has_no_place a ≡ false → has_no_place b ≡ false → Holds (span_of a b) s → Holds (join_of a b) s
spanned a b s e f h = rw (e, f) h

max_over : (a b : ℤ) → (a ≤ℤ int_max a b) × (b ≤ℤ int_max a b)
max_over a b = (omega (arith, ints, clamps), omega (arith, ints, clamps))

low_end : (f t w s m : ℤ) → m ≡ int_max (pos 0 -ℤ (t -ℤ f)) (pos 0) → (pos 0 -ℤ (s -ℤ f)) ≤ℤ (m +ℤ w) → int_min (f -ℤ w) (t -ℤ w) ≤ℤ s
low_end f t w s m e h = omega (arith, ints, clamps)

high_end : (f t w s m : ℤ) → m ≡ int_max (t -ℤ f) (pos 0) → (s -ℤ f) ≤ℤ (m +ℤ w) → s ≤ℤ int_max (f +ℤ w) (t +ℤ w)
high_end f t w s m e h = omega (arith, ints, clamps)

-- a place in a bar lies in the box of both ends, widened by the bar's width
pub bar_span : (from to : Point) (w : Nm) (s : Spot) → IsInBar s (record { from = from; to = to; width = w })
    → Holds (span_of (box_about (place_of from) w.0 w.0) (box_about (place_of to) w.0 w.0)) s
bar_span from to w s h =
    let a = way from to in
    let v = seen_from from s in
    let wide = at_least w.0 h.wide in
    let r = reached a v w.0 wide h.beside in
    let minus_x = pos 0 -ℤ a.x in
    let minus_y = pos 0 -ℤ a.y in
    record {
      left = low_end _ _ w.0 s.x (int_max minus_x (pos 0)) refl (r.left (int_max minus_x (pos 0)) (max_over minus_x (pos 0)).0 (max_over minus_x (pos 0)).1);
      right = high_end _ _ w.0 s.x (int_max a.x (pos 0)) refl (r.right (int_max a.x (pos 0)) (max_over a.x (pos 0)).0 (max_over a.x (pos 0)).1);
      below = low_end _ _ w.0 s.y (int_max minus_y (pos 0)) refl (r.below (int_max minus_y (pos 0)) (max_over minus_y (pos 0)).0 (max_over minus_y (pos 0)).1);
      above = high_end _ _ w.0 s.y (int_max a.y (pos 0)) refl (r.above (int_max a.y (pos 0)) (max_over a.y (pos 0)).0 (max_over a.y (pos 0)).1);
    }

pub bar_box : (from to : Point) (w : Nm) (s : Spot) → IsInBar s (record { from = from; to = to; width = w })
    → Holds (join_of (box_about (place_of from) w.0 w.0) (box_about (place_of to) w.0 w.0)) s
bar_box from to w s h = search (rules, at_least, spanned, has_place_about, bar_span)

-- boxes that are joined
pub join_kept : {X : Type 0} (f : X → Bounds) (z : Bounds) (xs : List X) (s : Spot) → Holds z s → Holds (fold (λ b x. join_of b (f x)) z xs) s
join_kept f z [] s h = h
join_kept f z (x ∷ xs) s h = join_kept f (join_of z (f x)) xs s ((join_least z (f x)).first s h)

pub join_found : {X : Type 0} (f : X → Bounds) (z : Bounds) (xs : List X) (k : ℕ) (d : X) (s : Spot) → k < length xs → Holds (f (get_or xs k d)) s
    → Holds (fold (λ b x. join_of b (f x)) z xs) s
join_found f z [] k d s h held = absurd (omega arith)
join_found f z (x ∷ xs) zero d s h held = join_kept f (join_of z (f x)) xs s ((join_least z (f x)).second s held)
join_found f z (x ∷ xs) (suc k) d s h held = join_found f (join_of z (f x)) xs k d s (omega arith) held

pub join_among : {X : Type 0} (f : X → Bounds) (z : Bounds) (before : List X) (x : X) (after : List X) (s : Spot) → Holds (f x) s
    → Holds (fold (λ b x. join_of b (f x)) z (before ++ x ∷ after)) s
join_among f z [] x after s h = join_kept f (join_of z (f x)) after s ((join_least z (f x)).second s h)
join_among f z (y ∷ before) x after s h = join_among f (join_of z (f y)) before x after s h

-- outlines
no_caps : (here : Point) (points : List Point) → caps_from here (lines_to points) ≡ []
no_caps here [] = refl
no_caps here (p ∷ ps) = no_caps p ps

no_edge : (a : Bool) (x y : Bool) → cond a (cond a false x) (cond a y false) ≡ false
no_edge a x y = grind arith

not_odd : (b : Bool) (k : ℕ) → b ≡ false → k ≡ one_if b + 0 → (k + 0) % 2 ≡ 1 → ⊥
not_odd b k e f h = grind arith

none_inside : (s : Spot) → IsInContour s (outline_of []) → ⊥
none_inside s h = grind (arith, not_odd, no_edge, count_by-cons)

inside_box : (b : Bounds) (c : Contour) (s : Spot) → caps_of c ≡ [] → Holds b (place_of c.start) → All (λ seg. Holds b (place_of (end_of seg))) c.segs
    → IsInContour s c → Holds b s
inside_box b c s e start ends inside = grind (arith, contour_box, no_any)

same : (z : ℤ) → z ≤ℤ z
same z = omega (arith, ints)

point_place : (p : Point) → Holds (box_of_point p) (place_of p)
point_place p = record { left = same _; right = same _; below = same _; above = same _ }

pub outline_box : (points : List Point) (s : Spot) → IsInContour s (outline_of points) → Holds (primitive_box (Outline points)) s
outline_box [] s h = none_inside s h
outline_box (p ∷ ps) s h =
    let b = primitive_box (Outline (p ∷ ps)) in
    let holds : All (λ q. Holds b (place_of q)) (p ∷ ps) = λ k d below. join_found box_of_point Empty (p ∷ ps) k d (place_of (get_or (p ∷ ps) k d)) below (point_place (get_or (p ∷ ps) k d)) in
    inside_box b (outline_of (p ∷ ps)) s (no_caps p ps) (holds 0 p (omega arith))
    (All-map (λ seg. Holds b (place_of (end_of seg))) (λ q. Line q) ps (All-tail (λ q. Holds b (place_of q)) p ps holds)) h

pub shape_box : (shape : PrimShape) (s : Spot) → IsInShape shape s → Holds (primitive_box shape) s
shape_box shape s h = grind (arith, disc_box, bar_box, rectangle_box, outline_box)

-- a place that primitives paint lies in their box
pub painted_box : (prims : List MacroPrimitive) (s : Spot) → IsExposed prims s → Holds (box_of_prims prims) s
painted_box prims s h =
    subst (λ ps. Holds (box_of_prims ps) s) (sym h.split)
    (join_among (λ p. primitive_box p.shape) Empty h.before h.prim h.after s (shape_box h.prim.shape s h.held))

-- obrounds
along : (v : Vector) (n r : ℤ) → pos 0 ≤ℤ n → pos 0 <ℤ r → IsAlong v n r → (pos (unsigned_abs v.x) ≤ℤ (n +ℤ r)) × (pos (unsigned_abs v.y) ≤ℤ r)
along v n r some wide (inl between) = (omega (arith, ints, between.across), between.along)
along v n r some wide (inr (inl near)) =
    (omega (arith, ints, leg (from_left_end v n) r near), omega (arith, ints, other_leg (from_left_end v n) r near))
along v n r some wide (inr (inr near)) =
    (omega (arith, ints, leg (from_right_end v n) r near), omega (arith, ints, other_leg (from_right_end v n) r near))

pub obround_box : (p : Point) (s : Spot) (w h : Nm) → IsInObround s (record { centre = p; width = w; height = h }) → Holds (box_about (place_of p) w.0 h.0) s
obround_box p s w h k = elim k.rounded [
  | inl wide ↦
      let far = along (seen_from p s) (w.0 -ℤ h.0) h.0 (gap h.0 w.0 wide.0) k.high wide.1 in
      within_box p s w.0 h.0 (omega (arith, ints, far.0)) far.1
  | inr high ↦
      let far = along (swapped (seen_from p s)) (h.0 -ℤ w.0) w.0 (gap w.0 h.0 (less_at_most w.0 h.0 high.0)) k.wide high.1 in
      within_box p s w.0 h.0 far.1 (omega (arith, ints, far.0))
]
