-- the box of a shape that is placed is the box of the shape, placed
use Rattle.std.proofs.Common.{◌≡◌, ◌+◌, ◌*◌, Bool, ℤ, pos, neg_ℤ, ◌+ℤ◌, ◌-ℤ◌, ◌*ℤ◌, List, [], ◌∷◌, map, refl, ap, sym, ◌∙◌, arith}
use Rattle.std.specs.Prelude.{fold}
use Rattle.std.specs.List.{flat_map}
use Rattle.std.specs.Int.RustNames.{unsigned_abs}
use Rattle.std.proofs.lemmas.Int.{ints}
use Rattle.cam_units.specs.declared.bounds.Bounds.{Bounds}
use Rattle.cam_units.specs.declared.bounds.Bounds.TheVariants.{Empty, Closed}
use Rattle.cam_units.specs.declared.length.Nm.{Nm}
use Rattle.cam_units.specs.declared.point.Point.{Point}
use Rattle.cam_units.specs.declared.turn.Turn.{Turn}
use Rattle.cam_units.specs.declared.turn.Turn.TheVariants.{R0, R90, R180, R270, M0, M90, M180, M270}
use Rattle.cam_units.specs.Boxes.{join_of}
use Rattle.cam_units.specs.Turns.{applied, matrix_of, minus}
use Rattle.cam_shapes.specs.declared.contour.Contour.{Contour}
use Rattle.cam_shapes.specs.declared.segments.Seg.{Seg}
use Rattle.cam_shapes.specs.declared.segments.Seg.TheVariants.{Line, Curve}
use Rattle.cam_shapes.specs.Contour.{caps_from, caps_of, end_of}
use Rattle.cam_shapes.specs.Placing.{placed_contour, placed_direction, placed_point, placed_seg}
use Rattle.cam_shapes.specs.Plane.{dot, place_of, way}
use Rattle.cam_apertures.specs.declared.aperture.Aperture.{Aperture as Template}
use Rattle.cam_apertures.specs.declared.aperture.Aperture.TheVariants.{Circle, Rect, Obround, Prims}
use Rattle.cam_apertures.specs.Bounds.{bounds_of as template_bounds}
use Rattle.cam_apertures.specs.Cover.{flash_point}
use Rattle.cam_apertures.specs.Primitives.{box_about, box_of_point}
use Rattle.cam_apertures.specs.Turned.{turned_box, turned_height, turned_width}
use Rattle.cam_apertures.proofs.Corners.{same_box}
use Rattle.cam_apertures.proofs.TurnedBoxes.{about_turned, point_turned, prims_turned, square_turned}
use Rattle.cam_objects.specs.declared.placing.place.Place.{Place}
use Rattle.cam_objects.specs.declared.tip.Tip.{Tip}
use Rattle.cam_objects.specs.declared.tip.Tip.TheVariants.{Round, Rectangular}
use Rattle.cam_objects.specs.Bounds.{box_of_all, box_of_cap, box_of_contour, box_of_shape, circle_square, moved, root, widened}
use Rattle.cam_objects.specs.Leaves.{Shape, Stamp, Stroke, Sweep, Filled, drawn as drawn_shape, placed, turned_tip}
use Rattle.cam_objects.specs.Machinery.Boxes.{placed_bounds}
use Rattle.cam_objects.specs.Soundness.{points_of_contour, points_of_seg, points_of_shape}
use Rattle.cam_objects.proofs.PlacedJoins.{joins_placed, moved_nowhere, placed_join}

abbrev pub nowhere : Point
nowhere = record { x = pos 0; y = pos 0 }

abbrev pub stroke : Point → Point → Nm → Shape
stroke from to w = Stroke (record { from = from; to = to; width = w })

abbrev pub sweep : Point → Point → Point → Bool → Nm → Shape
sweep from to centre ccw w = Sweep (record { from = from; to = to; centre = centre; ccw = ccw; width = w })

-- a measure of shapes that is placed with them
pub record IsPlacedSo (m : Shape → Bounds) : Type 0 where
  pub stamp : (p : Place) (a : Template) → m (Stamp a p.turn p.offset) ≡ placed_bounds p (m (Stamp a R0 nowhere))
  pub drawn : (p : Place) (tip : Tip) (from to : Point)
      → m (drawn_shape (turned_tip p.turn tip) (placed p from) (placed p to)) ≡ placed_bounds p (m (drawn_shape tip from to))
  pub sweep : (p : Place) (from to centre : Point) (ccw : Bool) (w : Nm)
      → m (sweep (placed p from) (placed p to) (placed p centre) (placed_direction p.turn ccw) w)
      ≡ placed_bounds p (m (sweep from to centre ccw w))
  pub filled : (p : Place) (c : Contour) → m (Filled (placed_contour p.turn p.offset c)) ≡ placed_bounds p (m (Filled c))

-- ---- points

doubled_sum : (a b : ℤ) → pos 2 *ℤ (a +ℤ b) ≡ pos 2 *ℤ a +ℤ pos 2 *ℤ b
doubled_sum a b = omega (arith, ints)

pub point_moved : (o q : Point) → box_of_point (record { x = q.x +ℤ o.x; y = q.y +ℤ o.y }) ≡ moved o (box_of_point q)
point_moved o q = same_box _ _ _ _ _ _ _ _ (doubled_sum q.x o.x) (doubled_sum q.y o.y) (doubled_sum q.x o.x) (doubled_sum q.y o.y)

pub point_placed : (p : Place) (q : Point) → box_of_point (placed p q) ≡ placed_bounds p (box_of_point q)
point_placed p q = point_moved p.offset (applied (matrix_of p.turn) q) ∙ ap (moved p.offset) (point_turned p.turn q)

points_placed : (p : Place) (ps : List Point) → box_of_all box_of_point (map (placed p) ps) ≡ placed_bounds p (box_of_all box_of_point ps)
points_placed p ps = joins_placed p box_of_point box_of_point (placed p) (point_placed p) Empty ps

contour_points : (p : Place) (segs : List Seg) → flat_map points_of_seg (map (placed_seg p.turn p.offset) segs)
    ≡ map (placed p) (flat_map points_of_seg segs)
contour_points p [] = refl
contour_points p (Line to ∷ segs) = ap (λ ps. placed p to ∷ ps) (contour_points p segs)
contour_points p (Curve to centre ccw ∷ segs) = ap (λ ps. placed p to ∷ placed p centre ∷ ps) (contour_points p segs)

abbrev pub box_of_points : Shape → Bounds
box_of_points s = box_of_all box_of_point (points_of_shape s)

pub points_so : IsPlacedSo box_of_points
points_so = record {
  stamp = λ p a. by p;
  drawn = drawn_by;
  sweep = λ p from to centre ccw w. points_placed p (from ∷ to ∷ centre ∷ []);
  filled = λ p c.
      ap (λ ps. box_of_all box_of_point (placed p c.start ∷ ps)) (contour_points p c.segs)
      ∙ points_placed p (points_of_contour c);
}
  where
    sum_none : (z : ℤ) → z ≡ pos 0 +ℤ z
    sum_none z = omega (arith, ints)

    at_offset : (t : Turn) (o : Point) → o ≡ placed_point t o nowhere
    at_offset R0 o = λ i. record { x = sum_none o.x i; y = sum_none o.y i }
    at_offset R90 o = λ i. record { x = sum_none o.x i; y = sum_none o.y i }
    at_offset R180 o = λ i. record { x = sum_none o.x i; y = sum_none o.y i }
    at_offset R270 o = λ i. record { x = sum_none o.x i; y = sum_none o.y i }
    at_offset M0 o = λ i. record { x = sum_none o.x i; y = sum_none o.y i }
    at_offset M90 o = λ i. record { x = sum_none o.x i; y = sum_none o.y i }
    at_offset M180 o = λ i. record { x = sum_none o.x i; y = sum_none o.y i }
    at_offset M270 o = λ i. record { x = sum_none o.x i; y = sum_none o.y i }

    drawn_by : (p : Place) (tip : Tip) (from to : Point)
        → box_of_points (drawn_shape (turned_tip p.turn tip) (placed p from) (placed p to))
        ≡ placed_bounds p (box_of_points (drawn_shape tip from to))
    drawn_by p (Round w) from to = points_placed p (from ∷ to ∷ [])
    drawn_by p (Rectangular w h) from to = points_placed p (from ∷ to ∷ [])

    by : (p : Place) → box_of_all box_of_point (p.offset ∷ []) ≡ placed_bounds p (box_of_all box_of_point (nowhere ∷ []))
    by p = ap (λ q. box_of_all box_of_point (q ∷ [])) (at_offset p.turn p.offset) ∙ points_placed p (nowhere ∷ [])

-- ---- what is covered

less_moved : (a b h : ℤ) → pos 2 *ℤ (a +ℤ b) -ℤ h ≡ pos 2 *ℤ a -ℤ h +ℤ pos 2 *ℤ b
less_moved a b h = omega (arith, ints)

more_moved : (a b h : ℤ) → pos 2 *ℤ (a +ℤ b) +ℤ h ≡ pos 2 *ℤ a +ℤ h +ℤ pos 2 *ℤ b
more_moved a b h = omega (arith, ints)

pub about_moved : (o c : Point) (w h : ℤ) → box_about (place_of (record { x = c.x +ℤ o.x; y = c.y +ℤ o.y })) w h
    ≡ moved o (box_about (place_of c) w h)
about_moved o c w h = same_box _ _ _ _ _ _ _ _ (less_moved c.x o.x w) (less_moved c.y o.y h) (more_moved c.x o.x w) (more_moved c.y o.y h)

about_placed : (p : Place) (c : Point) (h : ℤ) → box_about (place_of (placed p c)) h h ≡ placed_bounds p (box_about (place_of c) h h)
about_placed p c h =
    about_moved p.offset (applied (matrix_of p.turn) c) h h ∙ ap (moved p.offset) (square_turned p.turn c (record { 0 = h }))

-- of a rectangle, whose sides are turned
rectangle_placed : (p : Place) (c : Point) (w h : Nm)
    → box_about (place_of (placed p c)) (turned_width p.turn w h).0 (turned_height p.turn w h).0
    ≡ placed_bounds p (box_about (place_of c) w.0 h.0)
rectangle_placed p c w h =
    about_moved p.offset (applied (matrix_of p.turn) c) (turned_width p.turn w h).0 (turned_height p.turn w h).0
    ∙ ap (moved p.offset) (about_turned p.turn c w h)

pub widened_moved : (w : ℤ) (o : Point) (b : Bounds) → widened w (moved o b) ≡ moved o (widened w b)
widened_moved w o Empty = refl
widened_moved w o (Closed low high) =
    same_box _ _ _ _ _ _ _ _ (omega (arith, ints)) (omega (arith, ints)) (omega (arith, ints)) (omega (arith, ints))

-- an edge that is turned
less_turned : (z w : ℤ) → neg_ℤ z -ℤ w ≡ neg_ℤ (z +ℤ w)
less_turned z w = omega (arith, ints)

more_turned : (z w : ℤ) → neg_ℤ z +ℤ w ≡ neg_ℤ (z -ℤ w)
more_turned z w = omega (arith, ints)

widened_turned : (w : ℤ) (t : Turn) (b : Bounds) → widened w (turned_box t b) ≡ turned_box t (widened w b)
widened_turned w t b = grind (arith, same_box, less_turned, more_turned)

pub widened_placed : (w : ℤ) (p : Place) (b : Bounds) → widened w (placed_bounds p b) ≡ placed_bounds p (widened w b)
widened_placed w p b = widened_moved w p.offset (turned_box p.turn b) ∙ ap (moved p.offset) (widened_turned w p.turn b)

pub square_is : (z : ℤ) → z *ℤ z ≡ pos (unsigned_abs z * unsigned_abs z)
square_is z = grind arith

same_square : (a b : ℤ) → unsigned_abs a ≡ unsigned_abs b → a *ℤ a ≡ b *ℤ b
same_square a b e = square_is a ∙ ap (λ n. pos (n * n)) e ∙ sym (square_is b)

straight : (x y x' y' : ℤ) → unsigned_abs x' ≡ unsigned_abs x → unsigned_abs y' ≡ unsigned_abs y → x' *ℤ x' +ℤ y' *ℤ y' ≡ x *ℤ x +ℤ y *ℤ y
straight x y x' y' e f = λ i. same_square x' x e i +ℤ same_square y' y f i

exchanged : (a b : ℤ) → a +ℤ b ≡ b +ℤ a
exchanged a b = omega (arith, ints)

crosswise : (x y x' y' : ℤ) → unsigned_abs x' ≡ unsigned_abs y → unsigned_abs y' ≡ unsigned_abs x → x' *ℤ x' +ℤ y' *ℤ y' ≡ x *ℤ x +ℤ y *ℤ y
crosswise x y x' y' e f = straight y x x' y' e f ∙ exchanged (y *ℤ y) (x *ℤ x)

-- how far two coordinates lie from one another once their points are turned and moved
abbrev turned_way : ℤ → ℤ → ℤ → Point → Point → ℤ
turned_way a b o p q = pos 2 *ℤ ((a *ℤ q.x +ℤ b *ℤ q.y) +ℤ o) -ℤ pos 2 *ℤ ((a *ℤ p.x +ℤ b *ℤ p.y) +ℤ o)

along_x : (o : ℤ) (p q : Point) → unsigned_abs (turned_way (pos 1) (pos 0) o p q) ≡ unsigned_abs (way p q).x
along_x o p q = omega (arith, ints)

along_y : (o : ℤ) (p q : Point) → unsigned_abs (turned_way (pos 0) (pos 1) o p q) ≡ unsigned_abs (way p q).y
along_y o p q = omega (arith, ints)

against_x : (o : ℤ) (p q : Point) → unsigned_abs (turned_way minus (pos 0) o p q) ≡ unsigned_abs (way p q).x
against_x o p q = omega (arith, ints)

against_y : (o : ℤ) (p q : Point) → unsigned_abs (turned_way (pos 0) minus o p q) ≡ unsigned_abs (way p q).y
against_y o p q = omega (arith, ints)

same_way : (t : Turn) (o p q : Point) → dot (way (placed_point t o p) (placed_point t o q)) (way (placed_point t o p) (placed_point t o q))
    ≡ dot (way p q) (way p q)
same_way R0 o p q = straight (way p q).x (way p q).y _ _ (along_x o.x p q) (along_y o.y p q)
same_way R90 o p q = crosswise (way p q).x (way p q).y _ _ (against_y o.x p q) (along_x o.y p q)
same_way R180 o p q = straight (way p q).x (way p q).y _ _ (against_x o.x p q) (against_y o.y p q)
same_way R270 o p q = crosswise (way p q).x (way p q).y _ _ (along_y o.x p q) (against_x o.y p q)
same_way M0 o p q = straight (way p q).x (way p q).y _ _ (against_x o.x p q) (along_y o.y p q)
same_way M90 o p q = crosswise (way p q).x (way p q).y _ _ (against_y o.x p q) (against_x o.y p q)
same_way M180 o p q = straight (way p q).x (way p q).y _ _ (along_x o.x p q) (against_y o.y p q)
same_way M270 o p q = crosswise (way p q).x (way p q).y _ _ (along_y o.x p q) (along_x o.y p q)

pub circle_placed : (p : Place) (centre from : Point)
    → circle_square (placed p centre) (placed p from) ≡ placed_bounds p (circle_square centre from)
circle_placed p centre from =
    ap (λ d. let half = pos (root (unsigned_abs d) + 1) in box_about (place_of (placed p centre)) half half)
    (same_way p.turn p.offset centre from)
    ∙ about_placed p centre (pos (root (unsigned_abs (dot (way centre from) (way centre from))) + 1))

ends_placed : (p : Place) (segs : List Seg) → map end_of (map (placed_seg p.turn p.offset) segs) ≡ map (placed p) (map end_of segs)
ends_placed p [] = refl
ends_placed p (Line to ∷ segs) = ap (λ ps. placed p to ∷ ps) (ends_placed p segs)
ends_placed p (Curve to centre ccw ∷ segs) = ap (λ ps. placed p to ∷ ps) (ends_placed p segs)

caps_placed : (p : Place) (z : Bounds) (here : Point) (segs : List Seg)
    → fold (λ all x. join_of all (box_of_cap x)) (placed_bounds p z) (caps_from (placed p here) (map (placed_seg p.turn p.offset) segs))
    ≡ placed_bounds p (fold (λ all x. join_of all (box_of_cap x)) z (caps_from here segs))
caps_placed p z here [] = refl
caps_placed p z here (Line to ∷ segs) = caps_placed p z to segs
caps_placed p z here (Curve to centre ccw ∷ segs) =
    ap (λ b. fold (λ all x. join_of all (box_of_cap x)) b (caps_from (placed p to) (map (placed_seg p.turn p.offset) segs)))
    (ap (join_of (placed_bounds p z)) (circle_placed p centre here) ∙ sym (placed_join p z (circle_square centre here)))
    ∙ caps_placed p (join_of z (circle_square centre here)) to segs

contour_placed : (p : Place) (c : Contour) → box_of_contour (placed_contour p.turn p.offset c) ≡ placed_bounds p (box_of_contour c)
contour_placed p c =
    let caps = caps_placed p Empty c.start c.segs in
    ap (λ ps. join_of (box_of_all box_of_point (placed p c.start ∷ ps))
    (box_of_all box_of_cap (caps_of (placed_contour p.turn p.offset c)))) (ends_placed p c.segs)
    ∙ (λ i. join_of (points_placed p (c.start ∷ map end_of c.segs) i) (caps i))
    ∙ sym (placed_join p (box_of_all box_of_point (c.start ∷ map end_of c.segs)) (box_of_all box_of_cap (caps_of c)))

pub template_turned : (t : Turn) (a : Template) → template_bounds t a ≡ turned_box t (template_bounds R0 a)
template_turned R0 (Circle diameter hole) = about_turned R0 flash_point diameter diameter
template_turned R90 (Circle diameter hole) = about_turned R90 flash_point diameter diameter
template_turned R180 (Circle diameter hole) = about_turned R180 flash_point diameter diameter
template_turned R270 (Circle diameter hole) = about_turned R270 flash_point diameter diameter
template_turned M0 (Circle diameter hole) = about_turned M0 flash_point diameter diameter
template_turned M90 (Circle diameter hole) = about_turned M90 flash_point diameter diameter
template_turned M180 (Circle diameter hole) = about_turned M180 flash_point diameter diameter
template_turned M270 (Circle diameter hole) = about_turned M270 flash_point diameter diameter
template_turned R0 (Rect width height hole) = about_turned R0 flash_point width height
template_turned R90 (Rect width height hole) = about_turned R90 flash_point width height
template_turned R180 (Rect width height hole) = about_turned R180 flash_point width height
template_turned R270 (Rect width height hole) = about_turned R270 flash_point width height
template_turned M0 (Rect width height hole) = about_turned M0 flash_point width height
template_turned M90 (Rect width height hole) = about_turned M90 flash_point width height
template_turned M180 (Rect width height hole) = about_turned M180 flash_point width height
template_turned M270 (Rect width height hole) = about_turned M270 flash_point width height
template_turned R0 (Obround width height hole) = about_turned R0 flash_point width height
template_turned R90 (Obround width height hole) = about_turned R90 flash_point width height
template_turned R180 (Obround width height hole) = about_turned R180 flash_point width height
template_turned R270 (Obround width height hole) = about_turned R270 flash_point width height
template_turned M0 (Obround width height hole) = about_turned M0 flash_point width height
template_turned M90 (Obround width height hole) = about_turned M90 flash_point width height
template_turned M180 (Obround width height hole) = about_turned M180 flash_point width height
template_turned M270 (Obround width height hole) = about_turned M270 flash_point width height
template_turned t (Prims prims) = grind (arith, prims_turned)

stroke_points : (p : Place) (from to : Point) → join_of (box_of_point (placed p from)) (box_of_point (placed p to))
    ≡ placed_bounds p (join_of (box_of_point from) (box_of_point to))
stroke_points p from to =
    (λ i. join_of (point_placed p from i) (point_placed p to i)) ∙ sym (placed_join p (box_of_point from) (box_of_point to))

drawn_so : (p : Place) (tip : Tip) (from to : Point)
    → box_of_shape (drawn_shape (turned_tip p.turn tip) (placed p from) (placed p to))
    ≡ placed_bounds p (box_of_shape (drawn_shape tip from to))
drawn_so p (Round w) from to = grind (arith, stroke_points, widened_placed)
drawn_so p (Rectangular w h) from to =
    (λ i. join_of (rectangle_placed p from w h i) (rectangle_placed p to w h i))
    ∙ sym (placed_join p (box_about (place_of from) w.0 h.0) (box_about (place_of to) w.0 h.0))

pub shapes_so : IsPlacedSo box_of_shape
shapes_so = record {
  stamp = λ p a.
      ap (moved p.offset) (template_turned p.turn a ∙ ap (turned_box p.turn) (sym (moved_nowhere (template_bounds R0 a))));
  drawn = drawn_so;
  sweep = λ p from to centre ccw w.
      ap (widened w.0)
      ((λ i. join_of (circle_placed p centre from i) (stroke_points p from to i))
      ∙ sym (placed_join p (circle_square centre from) (join_of (box_of_point from) (box_of_point to))))
      ∙ widened_placed w.0 p (join_of (circle_square centre from) (join_of (box_of_point from) (box_of_point to)));
  filled = contour_placed;
}
