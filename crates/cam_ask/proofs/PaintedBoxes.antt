-- The box of what an arc paints holds all that it covers.
use Rattle.std.proofs.Common.{◌≡◌, Bool, true, false, ◌||◌, ℕ, zero, suc, ◌+◌, ◌*◌, ◌-◌, ◌==◌, ◌<◌, ◌≤◌, ℤ, pos, negsuc, ◌+ℤ◌, ◌-ℤ◌, ◌*ℤ◌, ◌≤ℤ◌, inl, inr, List, [], ◌∷◌, get_or, Option, None, Some, refl, ap, sym, subst, ◌∙◌, arith}
use Rattle.std.specs.Prelude.{Any, max, min, if◌then◌else◌}
use Rattle.std.specs.Int.RustNames.{unsigned_abs}
use Rattle.std.proofs.lemmas.Bool.{cases_Bool, eqb-true, false≢true}
use Rattle.std.proofs.lemmas.Int.{ints}
use Rattle.std.proofs.lemmas.Nat.{mul-le}
use Rattle.cam_units.proofs.Ring.{Atom, Difference, Product, Sum, equal}
use Rattle.cam_units.specs.Boxes.{Holds, join_of}
use Rattle.cam_units.specs.declared.bounds.Bounds.{Bounds}
use Rattle.cam_units.specs.declared.bounds.Bounds.TheVariants.{Empty}
use Rattle.cam_units.specs.declared.length.Nm.{Nm}
use Rattle.cam_units.specs.declared.point.Point.{Point}
use Rattle.cam_units.specs.declared.point.Spot.{Spot}
use Rattle.cam_units.proofs.BoxLaws.{clip_places, join_least}
use Rattle.cam_shapes.specs.declared.arc.Arc.{Arc}
use Rattle.cam_shapes.specs.declared.vector.Vector.{Vector}
use Rattle.cam_shapes.specs.Arc.{IsInArc, IsInSweep, IsNearCircle, IsOnArc, IsSwept}
use Rattle.cam_shapes.specs.Plane.{cross, dot, place_of, seen_from, way}
use Rattle.cam_shapes.proofs.Strokes.{dot_is, natural_or_not, squares_order}
use Rattle.cam_shapes.proofs.Vectors.{same_vector}
use Rattle.cam_shapes.proofs.TestLaws.{is_in_arc-meaning}
use Rattle.cam_apertures.specs.Primitives.{box_about}
use Rattle.cam_apertures.proofs.ShapeBoxes.{disc_box, join_found}
use Rattle.cam_objects.specs.declared.item.Item.{Item}
use Rattle.cam_objects.specs.declared.item.Item.TheVariants.{One, Repeat}
use Rattle.cam_objects.specs.declared.object.Object.TheVariants as objects
use Rattle.cam_objects.specs.Bounds.{bounds_of, box_of_all}
use Rattle.cam_objects.specs.Image.{Covers}
use Rattle.cam_objects.specs.Leaves.{Leaf, Meaning, Sweep, arc_leaves, item_leaves, origin, leaf, placed, polarity_in, round_width}
use Rattle.cam_objects.specs.Topmost.{IsCoveredBy}
use Rattle.cam_objects.proofs.CoveredBoxes.{inside_box}
use Rattle.cam_objects.proofs.Roots.{root_square}
use Rattle.cam_ask.specs.Painted.{
  PaintedLaw,
  along,
  arc_box,
  axis_box,
  axis_place,
  ceiling_of,
  down,
  drawn_box,
  floor_of,
  is_passed,
  left,
  painted_box,
  pen_box,
  reach_of,
  right,
  slack_of,
  up,
}
use Rattle.cam_ask.proofs.Arcs.{farthest, nearest}
use Rattle.cam_ask.proofs.Sides.{IsLength, IsPassed, IsReached, passed_turned, some_some, square_of, swept_back, to_the_right, turned}

-- ---- lengths

ceiling : (f n : ℕ) (b : Bool) → (f * f == n) ≡ b → n < (f + 1) * (f + 1) → n ≤ (if b then f else f + 1) * (if b then f else f + 1)
ceiling f n b e next = grind (arith, eqb-true)

length_of : (v : Vector) → IsLength v (floor_of v) (ceiling_of v)
length_of v = grind (arith, square_of, dot_is, root_square, ceiling)

near_naturals : (v u : Vector) (w : ℤ) (r : ℕ) → w ≡ pos r → IsNearCircle (dot v v) (dot u u) w
    → IsNearCircle (pos (square_of v)) (pos (square_of u)) (pos r)
near_naturals v u w r e near = rw (dot_is v, dot_is u, e) at near

reached : (sf sc ef ec low high r : ℕ) → min sf ef ≤ low → high ≤ max sc ec
    → IsReached low high (sf - r) (sc + r) (r + (max sc ec - min sf ef))
reached sf sc ef ec low high r h k = record { beyond = omega (arith, h); within = omega (arith, k) }

passed : (a : Arc) (s : Spot) (r : ℕ) → a.width.0 ≡ pos r
    → IsOnArc (way a.centre a.from) (way a.centre a.to) (seen_from a.centre s) a
    → IsPassed a.ccw (way a.centre a.from) (way a.centre a.to) (seen_from a.centre s)
    (floor_of (way a.centre a.from)) (ceiling_of (way a.centre a.from))
    (floor_of (way a.centre a.to)) (ceiling_of (way a.centre a.to))
    (floor_of (way a.centre a.from) - r) (ceiling_of (way a.centre a.from) + r)
    (r + slack_of (way a.centre a.from) (way a.centre a.to))
passed a s r e on =
    let u = way a.centre a.from in
    let t = way a.centre a.to in
    let v = seen_from a.centre s in
    let near = near_naturals v u a.width.0 r e on.1 in record {
      start = length_of u;
      finish = length_of t;
      bottom = nearest (square_of v) (square_of u) r (floor_of u) near (length_of u).floor;
      top = farthest (square_of v) (square_of u) r (ceiling_of u) near (length_of u).ceiling;
      start_reach =
          reached (floor_of u) (ceiling_of u) (floor_of t) (ceiling_of t) (floor_of u) (ceiling_of u) r (omega arith) (omega arith);
      finish_reach =
          reached (floor_of u) (ceiling_of u) (floor_of t) (ceiling_of t) (floor_of t) (ceiling_of t) r (omega arith) (omega arith);
      swept = on.0;
    }

-- ---- the axes

abbrev times : ℕ → Vector → Vector
times k v = record { x = pos k *ℤ v.x; y = pos k *ℤ v.y }

cross_times : (k : ℕ) (s v : Vector) → cross s (times k v) ≡ pos k *ℤ cross s v
cross_times k s v =
    equal
    (Difference (Product (Atom s.x) (Product (Atom (pos k)) (Atom v.y))) (Product (Atom s.y) (Product (Atom (pos k)) (Atom v.x))))
    (Product (Atom (pos k)) (Difference (Product (Atom s.x) (Atom v.y)) (Product (Atom s.y) (Atom v.x))))
    (omega arith)

times_cross : (k : ℕ) (v e : Vector) → cross (times k v) e ≡ pos k *ℤ cross v e
times_cross k v e =
    equal
    (Difference (Product (Product (Atom (pos k)) (Atom v.x)) (Atom e.y)) (Product (Product (Atom (pos k)) (Atom v.y)) (Atom e.x)))
    (Product (Atom (pos k)) (Difference (Product (Atom v.x) (Atom e.y)) (Product (Atom v.y) (Atom e.x))))
    (omega arith)

times_dot : (k : ℕ) (v : Vector) → dot (times k v) (times k v) ≡ pos k *ℤ pos k *ℤ dot v v
times_dot k v =
    equal
    (Sum (Product (Product (Atom (pos k)) (Atom v.x)) (Product (Atom (pos k)) (Atom v.x)))
    (Product (Product (Atom (pos k)) (Atom v.y)) (Product (Atom (pos k)) (Atom v.y))))
    (Product (Product (Atom (pos k)) (Atom (pos k))) (Sum (Product (Atom v.x) (Atom v.x)) (Product (Atom v.y) (Atom v.y))))
    (omega arith)

still : (k : ℕ) (z w : ℤ) → w ≡ pos k *ℤ z → pos 0 ≤ℤ z → pos 0 ≤ℤ w
still k z w e h = omega (arith, ints, e, some_some (pos k) z (omega (arith, ints)) h)

-- a sweep that holds a direction holds each place in it
in_direction : (k : ℕ) (s e v : Vector) → IsInSweep s e v → IsInSweep s e (times k v)
in_direction k s e v it = grind (arith, still, cross_times, times_cross)

swept_in_direction : (ccw : Bool) (k : ℕ) (s e v : Vector) → IsSwept ccw s e v → IsSwept ccw s e (times k v)
swept_in_direction ccw k s e v h = grind (arith, in_direction)

-- a whole number next to the radius of a circle is less than 1 from it
square_near : (f d : ℕ) → 0 < f → d ≤ 2 * f → (f * f + (f * f + d) - 1) * (f * f + (f * f + d) - 1) ≤ 4 * (f * f) * (f * f + d)
square_near f zero some most =
    let m = f * f + (f * f + 0) - 1 in
    let one : 1 ≤ f * f = omega (arith, mul-le 1 1 f f some some) in
    omega (arith, mul-le m m (2 * (f * f)) (2 * (f * f)) (omega (arith, one)) (omega (arith, one)))
square_near f (suc d) some most =
    let same : f * f + (f * f + suc d) - 1 ≡ 2 * (f * f) + d = omega arith in
    rw same (omega (arith, mul-le d d (2 * f) (2 * f) (omega (arith, most)) (omega (arith, most))))

sum_is : (p q : ℕ) → 1 ≤ p + q → pos p +ℤ pos q -ℤ pos 1 ≡ pos (p + q - 1)
sum_is p q h = omega (arith, ints)

rounded : (f q : ℕ) → f * f ≤ q → q < (f + 1) * (f + 1) → IsNearCircle (pos (f * f)) (pos q) (pos 1)
rounded zero q floor next = inl (omega (arith, ints, next))
rounded (suc g) q floor next =
    let f = suc g in
    let d = q - f * f in
    let whole : f * f + d ≡ q = omega (arith, floor) in
    let near = square_near f d (omega arith) (omega (arith, floor, next)) in
    let one : 1 ≤ f * f = omega (arith, mul-le 1 1 f f (omega arith) (omega arith)) in
    let told : (f * f + q - 1) * (f * f + q - 1) ≤ 4 * (f * f) * q
    =
    subst (λ (n : ℕ). (f * f + n - 1) * (f * f + n - 1) ≤ 4 * (f * f) * n) whole near in
    inr (rw (sum_is (f * f) q (omega (arith, one))) (omega (arith, ints, told)))

abbrev pub thin : Arc → Arc
thin a = record { from = a.from; to = a.to; centre = a.centre; ccw = a.ccw; width = record { 0 = pos 1 } }

-- an arc that sweeps over an axis passes the place on it
on_axis : (a : Arc) (axis : Vector) → dot axis axis ≡ pos 1 → IsSwept a.ccw (way a.centre a.from) (way a.centre a.to) axis
    → IsInArc (axis_place a axis) (thin a)
on_axis a axis unit h =
    let u = way a.centre a.from in
    let f = floor_of u in
    let v = seen_from a.centre (axis_place a axis) in
    let there : times f axis ≡ v = same_vector (times f axis) v (omega (arith, ints)) (omega (arith, ints)) in
    let square : dot (times f axis) (times f axis) ≡ pos (f * f)
    =
    times_dot f axis ∙ ap (λ z. pos f *ℤ pos f *ℤ z) unit ∙ omega (arith, ints) in
    let near : IsNearCircle (dot (times f axis) (times f axis)) (dot u u) (pos 1)
    =
    subst (λ (p : ℤ). IsNearCircle p (dot u u) (pos 1)) (sym square)
    (subst (λ (q : ℤ). IsNearCircle (pos (f * f)) q (pos 1)) (sym (dot_is u))
    (rounded f (square_of u) (length_of u).floor (length_of u).next)) in
    record {
      wide = omega (arith, ints);
      near = inr (inr (subst (λ (x : Vector). IsSwept a.ccw u (way a.centre a.to) x × IsNearCircle (dot x x) (dot u u) (pos 1)) there
          (swept_in_direction a.ccw f u (way a.centre a.to) axis h, near)));
    }

-- what it does not pass it does not sweep over
off_axis : (a : Arc) (axis : Vector) → dot axis axis ≡ pos 1 → is_passed a (axis_place a axis) ≡ false
    → IsSwept a.ccw (way a.centre a.from) (way a.centre a.to) axis → ⊥
off_axis a axis unit e h =
    false≢true (sym (second _ _ e) ∙ (is_in_arc-meaning (axis_place a axis) (thin a)).1 (on_axis a axis unit h))
  where
    second : (b c : Bool) → (b || c) ≡ false → c ≡ false
    second true c e = absurd (false≢true (sym e))
    second false c e = e

-- ---- squares about places

wider : (q s : Spot) (w more : ℤ) → w ≤ℤ more → Holds (box_about q w w) s → Holds (box_about q more more) s
wider q s w more h on = grind (arith, ints)

-- the middles of the sides
module _ (q : Spot) (w : ℤ) (h : pos 0 ≤ℤ w) where
  at_right : Holds (box_about q w w) (record { x = q.x +ℤ w; y = q.y })
  at_right = grind (arith, ints)

  at_left : Holds (box_about q w w) (record { x = q.x -ℤ w; y = q.y })
  at_left = grind (arith, ints)

  at_top : Holds (box_about q w w) (record { x = q.x; y = q.y +ℤ w })
  at_top = grind (arith, ints)

  at_bottom : Holds (box_about q w w) (record { x = q.x; y = q.y -ℤ w })
  at_bottom = grind (arith, ints)

-- a box with places on all sides of a place holds that
hull : (b : Bounds) (s : Spot) → ((p : Spot) × (Holds b p × (s.x ≤ℤ p.x))) → ((p : Spot) × (Holds b p × (s.y ≤ℤ p.y)))
    → ((p : Spot) × (Holds b p × (p.x ≤ℤ s.x))) → ((p : Spot) × (Holds b p × (p.y ≤ℤ s.y))) → Holds b s
hull b s r t l b' = grind (arith, ints)

pub by_axis : (f : ℕ) → (pos f *ℤ pos 1 ≡ pos f) × (pos f *ℤ negsuc 0 ≡ pos 0 -ℤ pos f)
by_axis f = (omega (arith, ints), omega (arith, ints))

pub by_none : (f : ℕ) → pos f *ℤ pos 0 ≡ pos 0
by_none f = omega (arith, ints)

-- no farther to a side than the place is from the centre
no_farther : (x y most : ℕ) → x * x + y * y ≤ most * most → x ≤ most
no_farther x y most h = squares_order x most (omega (arith, h))

no_higher : (x y most : ℕ) → x * x + y * y ≤ most * most → y ≤ most
no_higher x y most h = squares_order y most (omega (arith, h))

-- ---- an arc

module _ (a : Arc) (s : Spot) (r : ℕ) (width : a.width.0 ≡ pos r)
    (on : IsOnArc (way a.centre a.from) (way a.centre a.to) (seen_from a.centre s) a) where
  abbrev u : Vector
  u = way a.centre a.from

  abbrev t : Vector
  t = way a.centre a.to

  abbrev v : Vector
  v = seen_from a.centre s

  abbrev g : ℕ
  g = r + slack_of u t

  abbrev w : ℤ
  w = reach_of a

  wide : w ≡ pos g
  wide = ap (λ z. z +ℤ pos (slack_of u t)) width

  some : pos 0 ≤ℤ w
  some = omega (arith, ints, wide)

  here : IsPassed a.ccw u t v (floor_of u) (ceiling_of u) (floor_of t) (ceiling_of t) (floor_of u - r) (ceiling_of u + r) g
  here = passed a s r width on

  abbrev ends : Bounds
  ends = join_of (pen_box a (place_of a.from)) (pen_box a (place_of a.to))

  abbrev axes : List Vector
  axes = right ∷ up ∷ left ∷ down ∷ []

  in_start : (p : Spot) → Holds (pen_box a (place_of a.from)) p → Holds (arc_box a) p
  in_start p h =
      (join_least ends (box_of_all (axis_box a) axes)).first p
      ((join_least (pen_box a (place_of a.from)) (pen_box a (place_of a.to))).first p h)

  in_finish : (p : Spot) → Holds (pen_box a (place_of a.to)) p → Holds (arc_box a) p
  in_finish p h =
      (join_least ends (box_of_all (axis_box a) axes)).first p
      ((join_least (pen_box a (place_of a.from)) (pen_box a (place_of a.to))).second p h)

  in_axis : (p : Spot) (k : ℕ) (axis : Vector) → k < 4 → get_or axes k axis ≡ axis → is_passed a (axis_place a axis) ≡ true
      → Holds (pen_box a (along a.centre (floor_of u) axis)) p → Holds (arc_box a) p
  in_axis p k axis few at told h =
      (join_least ends (box_of_all (axis_box a) axes)).second p
      (join_found (axis_box a) Empty axes k axis p few
      (subst (λ (x : Vector). Holds (axis_box a x) p) (sym at)
      (subst (λ (b : Bool). Holds (if b then pen_box a (along a.centre (floor_of u) axis) else Empty) p) (sym told) h)))

  to_right : (p : Spot) × (Holds (arc_box a) p × (s.x ≤ℤ p.x))
  to_right = elim (cases_Bool (is_passed a (axis_place a right))) [
    | inl told ↦ (
      _,
      (
        in_axis _ 0 right (omega arith) refl told (at_right (along a.centre (floor_of u) right) w some),
        omega (
          arith,
          ints,
          wide,
          (by_axis (floor_of u)).0,
          here.start_reach.beyond,
          no_farther (unsigned_abs v.x) (unsigned_abs v.y) (ceiling_of u + r) here.top,
        ),
      ),
    )
    | inr not ↦ elim (to_the_right a.ccw u t v _ _ _ _ _ _ _ here (off_axis a right refl not)) [
      | inl far ↦ (_, (in_start _ (at_right (place_of a.from) w some), omega (arith, ints, wide, far)))
      | inr far ↦ (_, (in_finish _ (at_right (place_of a.to) w some), omega (arith, ints, wide, far)))
    ]
  ]

  to_top : (p : Spot) × (Holds (arc_box a) p × (s.y ≤ℤ p.y))
  to_top = elim (cases_Bool (is_passed a (axis_place a up))) [
    | inl told ↦ (
      _,
      (
        in_axis _ 1 up (omega arith) refl told (at_top (along a.centre (floor_of u) up) w some),
        omega (
          arith,
          ints,
          wide,
          (by_axis (floor_of u)).0,
          here.start_reach.beyond,
          no_higher (unsigned_abs v.x) (unsigned_abs v.y) (ceiling_of u + r) here.top,
        ),
      ),
    )
    | inr not ↦
        elim (to_the_right a.ccw (turned u) (turned t) (turned v) _ _ _ _ _ _ _ (passed_turned a.ccw u t v _ _ _ _ _ _ _ here)
        (λ h. off_axis a up refl not (swept_back a.ccw u t up h))) [
          | inl far ↦ (_, (in_start _ (at_top (place_of a.from) w some), omega (arith, ints, wide, far)))
          | inr far ↦ (_, (in_finish _ (at_top (place_of a.to) w some), omega (arith, ints, wide, far)))
        ]
  ]

  to_left : (p : Spot) × (Holds (arc_box a) p × (p.x ≤ℤ s.x))
  to_left = elim (cases_Bool (is_passed a (axis_place a left))) [
    | inl told ↦ (
      _,
      (
        in_axis _ 2 left (omega arith) refl told (at_left (along a.centre (floor_of u) left) w some),
        omega (
          arith,
          ints,
          wide,
          (by_axis (floor_of u)).1,
          here.start_reach.beyond,
          no_farther (unsigned_abs v.x) (unsigned_abs v.y) (ceiling_of u + r) here.top,
        ),
      ),
    )
    | inr not ↦
        elim (to_the_right a.ccw (turned (turned u)) (turned (turned t)) (turned (turned v)) _ _ _ _ _ _ _
        (passed_turned a.ccw (turned u) (turned t) (turned v) _ _ _ _ _ _ _ (passed_turned a.ccw u t v _ _ _ _ _ _ _ here))
        (λ h. off_axis a left refl not (swept_back a.ccw u t left (swept_back a.ccw (turned u) (turned t) up h)))) [
          | inl far ↦ (_, (in_start _ (at_left (place_of a.from) w some), omega (arith, ints, wide, far)))
          | inr far ↦ (_, (in_finish _ (at_left (place_of a.to) w some), omega (arith, ints, wide, far)))
        ]
  ]

  to_bottom : (p : Spot) × (Holds (arc_box a) p × (p.y ≤ℤ s.y))
  to_bottom = elim (cases_Bool (is_passed a (axis_place a down))) [
    | inl told ↦ (
      _,
      (
        in_axis _ 3 down (omega arith) refl told (at_bottom (along a.centre (floor_of u) down) w some),
        omega (
          arith,
          ints,
          wide,
          (by_axis (floor_of u)).1,
          here.start_reach.beyond,
          no_higher (unsigned_abs v.x) (unsigned_abs v.y) (ceiling_of u + r) here.top,
        ),
      ),
    )
    | inr not ↦
        elim (to_the_right a.ccw (turned (turned (turned u))) (turned (turned (turned t))) (turned (turned (turned v))) _ _ _ _ _ _ _
        (passed_turned a.ccw (turned (turned u)) (turned (turned t)) (turned (turned v)) _ _ _ _ _ _ _
        (passed_turned a.ccw (turned u) (turned t) (turned v) _ _ _ _ _ _ _ (passed_turned a.ccw u t v _ _ _ _ _ _ _ here)))
        (λ h. off_axis a down refl not (swept_back a.ccw u t down
        (swept_back a.ccw (turned u) (turned t) left (swept_back a.ccw (turned (turned u)) (turned (turned t)) up h))))) [
          | inl far ↦ (_, (in_start _ (at_bottom (place_of a.from) w some), omega (arith, ints, wide, far)))
          | inr far ↦ (_, (in_finish _ (at_bottom (place_of a.to) w some), omega (arith, ints, wide, far)))
        ]
  ]

  in_line : Holds (arc_box a) s
  in_line = hull (arc_box a) s to_right to_top to_left to_bottom

at_most_reach : (a : Arc) → a.width.0 ≤ℤ reach_of a
at_most_reach a = omega (arith, ints)

pub in_arc : (a : Arc) (s : Spot) → IsInArc s a → Holds (arc_box a) s
in_arc a s h =
    let size = natural_or_not a.width.0 h.wide in
    let first = join_least (join_of (pen_box a (place_of a.from)) (pen_box a (place_of a.to)))
    (box_of_all (axis_box a) (right ∷ up ∷ left ∷ down ∷ [])) in
    let ends = join_least (pen_box a (place_of a.from)) (pen_box a (place_of a.to)) in
    elim h.near [
      | inl near ↦ first.first s (ends.first s (wider (place_of a.from) s a.width.0 (reach_of a) (at_most_reach a)
          (disc_box a.from s a.width (record { some = h.wide; near = near }))))
      | inr rest ↦ elim rest [
        | inl near ↦ first.first s (ends.second s (wider (place_of a.to) s a.width.0 (reach_of a) (at_most_reach a)
            (disc_box a.to s a.width (record { some = h.wide; near = near }))))
        | inr on ↦ in_line a s size.0 size.1 on
      ]
    ]

-- ---- items

unmoved : (p : Point) → placed origin p ≡ p
unmoved p = grind (arith, ints)

alone : (l : Leaf) (P : Leaf → Type 0) → Any P (l ∷ []) → P l
alone l P any = grind arith

drawn : (o : Option Nm) (from to centre : Point) (ccw dark : Bool) (s : Spot)
    → IsCoveredBy (arc_leaves o (placed origin from) (placed origin to) (placed origin centre) ccw dark) s
    → Holds (drawn_box o from to centre ccw) s
drawn None from to centre ccw dark s any = absurd (omega (arith, any.2))
drawn (Some width) from to centre ccw dark s any =
    let there : Point → Point → Point → Arc = λ f t c. record { from = f; to = t; centre = c; ccw = ccw; width = width } in
    let stands : there (placed origin from) (placed origin to) (placed origin centre) ≡ there from to centre =
    λ i. there (unmoved from i) (unmoved to i) (unmoved centre i) in
    in_arc (there from to centre) s
    (subst (λ (a : Arc). IsInArc s a) stands
    (alone (leaf (Sweep (there (placed origin from) (placed origin to) (placed origin centre))) dark) (λ l. Covers l.shape s) any))

covered : (means : ℕ → Meaning) (item : Item) (s : Spot) → IsCoveredBy (item_leaves means item) s → Holds (painted_box means item) s
covered means (One (objects.Arc ccw dark n from to centre)) s any =
    (clip_places (bounds_of (item_leaves means (One (objects.Arc ccw dark n from to centre))))
    (drawn_box (round_width (means n).tip) from to centre ccw) s).1 (
      inside_box (item_leaves means (One (objects.Arc ccw dark n from to centre))) s any,
      drawn (round_width (means n).tip) from to centre ccw (polarity_in origin.dark dark) s any,
    )
covered means (One (objects.Flash n at t dark)) s any = grind (arith, inside_box)
covered means (One (objects.Draw n from to t dark)) s any = grind (arith, inside_box)
covered means (One (objects.Region contour dark)) s any =
    inside_box (item_leaves means (One (objects.Region contour dark))) s any
covered means (Repeat columns rows i j parts) s any = inside_box (item_leaves means (Repeat columns rows i j parts)) s any

within : (means : ℕ → Meaning) (item : Item) (s : Spot) → Holds (painted_box means item) s → Holds (bounds_of (item_leaves means item)) s
within means item s h = grind (arith, clip_places)

pub painted_law : PaintedLaw
painted_law = record { covered = covered; within = within }
