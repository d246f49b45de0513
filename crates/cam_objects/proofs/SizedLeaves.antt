-- what the entries of a sound dictionary paint has sizes, so that its boxes stand in order
use Rattle.std.proofs.lemmas.Grind.{common_steps}
use Rattle.std.proofs.Common.{rules}
use Rattle.std.proofs.Common.{◌≡◌, ℕ, zero, suc, ◌+◌, ◌*◌, ◌<◌, ◌≤◌, Bool, true, false, cond, ℤ, pos, ◌+ℤ◌, ◌-ℤ◌, ◌*ℤ◌, List, [], ◌∷◌, length, take, reverse, get_or, map, Option, nat_eq, sym, ap, subst, ◌∙◌, arith}
use Rattle.std.specs.List.{All, flat_map}
use Rattle.std.specs.Option.{IfSome}
use Rattle.std.specs.Int.RustNames.{unsigned_abs}
use Rattle.std.proofs.lemmas.Int.{ints, unsigned_abs-mul}
use Rattle.std.proofs.lemmas.Bool.{cases_lt}
use Rattle.std.proofs.lemmas.Nat.{mul-le}
use Rattle.std.proofs.lemmas.List.Elements.{All-cons, All-head, All-nil, All-tail, All-weaker}
use Rattle.cam_units.specs.Board.{IsOnBoard, IsSize}
use Rattle.cam_units.specs.declared.length.Nm.{Nm}
use Rattle.cam_units.specs.declared.point.Point.{Point}
use Rattle.cam_units.specs.declared.turn.Turn.{Turn}
use Rattle.cam_units.specs.declared.turn.Turn.TheVariants.{R0}
use Rattle.cam_units.specs.Boxes.{join_of, span_of}
use Rattle.cam_shapes.specs.declared.contour.Contour.{Contour}
use Rattle.cam_shapes.specs.declared.segments.Seg.{Seg}
use Rattle.cam_shapes.specs.declared.segments.Seg.TheVariants.{Line, Curve}
use Rattle.cam_shapes.specs.Contour.{caps_from, caps_of, end_of}
use Rattle.cam_shapes.specs.Plane.{dot, place_of, way}
use Rattle.cam_macros.specs.declared.primitive.MacroPrimitive.{MacroPrimitive}
use Rattle.cam_macros.specs.declared.primitive.PrimShape.{PrimShape}
use Rattle.cam_macros.specs.declared.primitive.PrimShape.TheVariants.{Disc, Bar, Rect as Rectangular, Outline}
use Rattle.cam_apertures.specs.declared.aperture.Aperture.{Aperture as Template}
use Rattle.cam_apertures.specs.Bounds.{bounds_of as template_bounds}
use Rattle.cam_apertures.specs.Cover.{flash_point}
use Rattle.cam_apertures.specs.Primitives.{
  IsMacroPoint,
  IsSoundPrim,
  IsSoundShape,
  box_about,
  box_of_point,
  box_of_prims,
  primitive_box as box_of_prim,
}
use Rattle.cam_apertures.specs.Soundness.{IsSoundAperture}
use Rattle.cam_apertures.proofs.TurnedBoxes.{prims_turned}
use Rattle.cam_objects.specs.declared.object.Object.{Object}
use Rattle.cam_objects.specs.declared.entry.Entry.{Entry}
use Rattle.cam_objects.specs.declared.entry.Entry.TheVariants.{Aperture, Block}
use Rattle.cam_objects.specs.declared.placing.place.Place.{Place}
use Rattle.cam_objects.specs.Bounds.{bounds_of, box_of_all, box_of_cap, box_of_contour, box_of_shape, circle_square, root}
use Rattle.cam_objects.specs.Leaves.{Filled, Leaf, Meaning, Shape, Stamp, Stroke, Sweep, Drilled, arc_leaves, block_leaves, draw_leaves, entry_meaning, leaf, meaning, meaning_in, no_meaning, object_leaves, Swept, drawn, round_width, turned_tip}
use Rattle.cam_objects.specs.Machinery.Boxes.{AreSized, IsNearBox, IsSizedShape, IsBoxReach, IsSizedTip}
use Rattle.cam_objects.specs.Machinery.Painting.{meaning_before}
use Rattle.cam_objects.specs.Soundness.{
  AreOnBoard,
  IsSoundDictionary,
  IsSoundEntry,
  MayAddEntry,
  points_of_contour,
  points_of_seg,
  points_of_shape,
}
use Rattle.cam_objects.proofs.BoxJoins.{joined}
use Rattle.cam_objects.proofs.BoxLimits.{
  IsBoxWithin,
  has_place,
  within_about,
  within_all,
  within_join,
  within_less,
  within_moved,
  within_near,
  within_point,
  within_turned,
  within_widened,
}
use Rattle.cam_objects.proofs.CopyBoxes.{all_flat_map}
use Rattle.cam_objects.proofs.Dictionaries.{front_more, whole}
use Rattle.cam_objects.proofs.Painting.{side_size, solid_size}
use Rattle.cam_objects.proofs.PlacedShapes.{template_turned}
use Rattle.cam_objects.proofs.Roots.{root_square}
use Rattle.cam_objects.specs.declared.tip.Tip.{Tip}

-- ---- sizes

one_sized : (l : Leaf) → IsSizedShape l.shape → AreSized (l ∷ [])
one_sized l h = All-cons (λ l. IsSizedShape l.shape) l [] h (All-nil (λ l. IsSizedShape l.shape))

-- a number paints leaves with sizes, and its strokes have one
pub record IsSizedMeaning (m : Meaning) : Type 0 where
  pub flash : (p : Place) → AreSized (m.flash p)
  pub tip : IfSome m.tip IsSizedTip

-- a tip that is turned is as large
pub turned_sized : (t : Turn) (tip : Tip) → IsSizedTip tip → IsSizedTip (turned_tip t tip)
turned_sized t tip h = grind arith

pub round_sized : (tip : Option Tip) → IfSome tip IsSizedTip → IfSome (round_width tip) (λ w. IsSize w.0)
round_sized tip h = grind arith

drawn_sized : (tip : Tip) (from to : Point) → IsSizedTip tip → IsSizedShape (drawn tip from to)
drawn_sized tip from to h = grind arith

draw_sized : (tip : Option Tip) (t : Turn) (from to : Point) (dark : Bool) → IfSome tip IsSizedTip
    → AreSized (draw_leaves tip t from to dark)
draw_sized tip t from to dark h = grind (arith, All-nil, one_sized, drawn_sized, turned_sized)

arc_sized : (tip : Option Tip) (from to centre : Point) (ccw dark : Bool) → IfSome tip IsSizedTip
    → AreSized (arc_leaves (round_width tip) from to centre ccw dark)
arc_sized tip from to centre ccw dark h = grind (arith, All-nil, one_sized)

module _ (means : ℕ → Meaning) (so : (n : ℕ) → IsSizedMeaning (means n)) where
  pub object_sized : (p : Place) (o : Object) → AreSized (object_leaves means p o)
  object_sized p o = grind (arith, draw_sized, arc_sized, one_sized)

  pub block_sized : (p : Place) (objects : List Object) → AreSized (block_leaves means p objects)
  block_sized p = all_flat_map (λ l. IsSizedShape l.shape) (object_leaves means p) (object_sized p)

  entry_sized : (older : List (ℕ × Entry)) (e : Entry) → IsSoundEntry older e → IsSizedMeaning (entry_meaning means e)
  entry_sized older (Aperture a) h = record { flash = λ p. one_sized (leaf (Stamp a p.turn p.offset) p.dark) h; tip = solid_size a h }
  entry_sized older (Block objects) h = record { flash = λ p. block_sized p objects; tip = tt }

nothing_sized : IsSizedMeaning no_meaning
nothing_sized = record { flash = λ p. All-nil (λ l. IsSizedShape l.shape); tip = tt }

pub before_sized : (es : List (ℕ × Entry)) (k n : ℕ) → IsSoundDictionary es → k ≤ length es → IsSizedMeaning (meaning_before k es n)
before_sized es zero n sound within = nothing_sized
before_sized es (suc k) n sound within =
    let d : ℕ × Entry = (0, Block []) in
    let e = get_or es k d in
    let one : k + 1 ≡ suc k = omega arith in
    let older : (q : ℕ) → IsSizedMeaning (meaning_before k es q) = λ q. before_sized es k q sound (omega arith) in
    let may : MayAddEntry (take k es) e.0 e.1 = sound k d (omega arith) in
    subst (λ ds. IsSizedMeaning (meaning ds n)) (sym (front_more es k d (omega arith)) ∙ ap (λ j. reverse (take j es)) one)
    (by (nat_eq e.0 n) (entry_sized (meaning_before k es) older (take k es) e.1 may.sound) (older n))
  where
    by : (b : Bool) {x y : Meaning} → IsSizedMeaning x → IsSizedMeaning y → IsSizedMeaning (cond b x y)
    by true h k = h
    by false h k = k

pub meaning_sized : (es : List (ℕ × Entry)) (n : ℕ) → IsSoundDictionary es → IsSizedMeaning (meaning_in es n)
meaning_sized es n sound =
    subst (λ ds. IsSizedMeaning (meaning (reverse ds) n)) (whole es) (before_sized es (length es) n sound (omega arith))

-- ---- boxes of apertures

abbrev small : ℕ
small = 600000000

origin_about : (w h : ℤ) → IsSize w → IsSize h → IsBoxWithin small (box_about (place_of flash_point) w h)
origin_about w h a b = grind (arith, within_less, within_about)

macro_about : (p : Point) (w h : ℤ) → IsMacroPoint p → IsSize w → IsSize h → IsBoxWithin small (box_about (place_of p) w h)
macro_about p w h k a b = within_about 200000000 200000000 p w h k.x k.y a.0 a.1 b.0 b.1

macro_point : (p : Point) → IsMacroPoint p → IsBoxWithin small (box_of_point p)
macro_point p h = within_less (2 * 200000000) small (box_of_point p) (omega arith) (within_point 200000000 p h.x h.y)

prim_within : (s : PrimShape) → IsSoundShape s → IsBoxWithin small (box_of_prim s)
prim_within (Disc centre diameter) h = macro_about centre diameter.0 diameter.0 h.0 h.1 h.1
prim_within (Bar from to width) h = search (rules, within_join, macro_about)
prim_within (Rectangular centre width height) h = macro_about centre width.0 height.0 h.0 h.1 h.2
prim_within (Outline points) h =
    within_all small box_of_point points (All-weaker IsMacroPoint (λ p. IsBoxWithin small (box_of_point p)) macro_point points h.near)

prims_within : (prims : List MacroPrimitive) → All IsSoundPrim prims → IsBoxWithin small (box_of_prims prims)
prims_within prims h = search (rules, within_all, All-weaker, IsBoxWithin, prim_within)

unturned_within : (a : Template) → IsSoundAperture a → IsBoxWithin small (template_bounds R0 a)
unturned_within a h = grind (arith, common_steps, origin_about, side_size, IsBoxWithin, prims_turned, within_turned, prims_within)

template_within : (t : Turn) (a : Template) → IsSoundAperture a → IsBoxWithin small (template_bounds t a)
template_within t a h = grind (arith, IsBoxWithin, template_turned, within_turned, unturned_within)

-- ---- boxes of leaves on the board

abbrev pub reach : ℕ
reach = 8000000000

abbrev pub inner : ℕ
inner = 7800000000

pub board_point : (p : Point) → IsOnBoard p → IsBoxWithin inner (box_of_point p)
board_point p h = grind (arith, within_less, within_point)

pub near_point : (p : Point) → IsOnBoard p → IsNearBox (box_of_point p)
near_point p h = within_near inner (box_of_point p) (omega arith) (board_point p h)

pub size_reach : (n : Nm) → IsSize n.0 → IsBoxReach n
size_reach n h = record { some = h.0; few = omega (arith, ints, h.1) }

square_is : (z : ℤ) → unsigned_abs (z *ℤ z) ≡ unsigned_abs z * unsigned_abs z
square_is z = unsigned_abs-mul z z

sum_is : (a b : ℤ) → unsigned_abs (a +ℤ b) ≤ unsigned_abs a + unsigned_abs b
sum_is a b = omega (arith, ints)

leg : (a b : ℤ) → unsigned_abs a < 1000000000 → unsigned_abs b < 1000000000 → unsigned_abs (pos 2 *ℤ b -ℤ pos 2 *ℤ a) ≤ 4000000000
leg a b h k = omega (arith, ints)

pub squared_length : (p q : Point) → IsOnBoard p → IsOnBoard q → unsigned_abs (dot (way p q) (way p q)) ≤ 32000000000000000000
squared_length p q h k =
    let v = way p q in
    let x = leg p.x q.x h.x k.x in
    let y = leg p.y q.y h.y k.y in
    omega (
      arith,
      sum_is (v.x *ℤ v.x) (v.y *ℤ v.y),
      square_is v.x,
      square_is v.y,
      mul-le (unsigned_abs v.x) (unsigned_abs v.x) 4000000000 4000000000 x x,
      mul-le (unsigned_abs v.y) (unsigned_abs v.y) 4000000000 4000000000 y y,
    )

pub root_below : (n r : ℕ) → r * r ≤ n → n ≤ 32000000000000000000 → r < 5700000000
root_below n r h k = grind (arith, cases_lt, mul-le)

pub root_few : (n : ℕ) → n ≤ 32000000000000000000 → root n < 5700000000
root_few n h = root_below n (root n) (root_square n).0 h

pub circle_within : (centre from : Point) → IsOnBoard centre → IsOnBoard from → IsBoxWithin inner (circle_square centre from)
circle_within centre from h k =
    let half = root (unsigned_abs (dot (way centre from) (way centre from))) + 1 in
    let few : half ≤ 5700000000 = omega (
      arith,
      root_few (unsigned_abs (dot (way centre from) (way centre from)))
          (squared_length centre from h k),
    ) in
    within_less (2 * 1000000000 + 5700000000) inner (circle_square centre from) (omega arith)
    (within_about 1000000000 5700000000 centre (pos half) (pos half) (omega (arith, h.x)) (omega (arith, h.y))
    (omega (arith, ints)) (omega (arith, ints, few)) (omega (arith, ints)) (omega (arith, ints, few)))

ends_within : (segs : List Seg) → All IsOnBoard (flat_map points_of_seg segs)
    → All (λ p. IsBoxWithin inner (box_of_point p)) (map end_of segs)
ends_within [] h = All-nil (λ p. IsBoxWithin inner (box_of_point p))
ends_within (Line to ∷ segs) h =
    let rest = flat_map points_of_seg segs in
    All-cons (λ p. IsBoxWithin inner (box_of_point p)) to (map end_of segs) (board_point to (All-head IsOnBoard to rest h))
    (ends_within segs (All-tail IsOnBoard to rest h))
ends_within (Curve to centre ccw ∷ segs) h =
    let rest = flat_map points_of_seg segs in
    All-cons (λ p. IsBoxWithin inner (box_of_point p)) to (map end_of segs) (board_point to (All-head IsOnBoard to (centre ∷ rest) h))
    (ends_within segs (All-tail IsOnBoard centre rest (All-tail IsOnBoard to (centre ∷ rest) h)))

caps_within : (here : Point) (segs : List Seg) → IsOnBoard here → All IsOnBoard (flat_map points_of_seg segs)
    → All (λ c. IsBoxWithin inner (box_of_cap c)) (caps_from here segs)
caps_within here [] k h = All-nil (λ c. IsBoxWithin inner (box_of_cap c))
caps_within here (Line to ∷ segs) k h =
    let rest = flat_map points_of_seg segs in
    caps_within to segs (All-head IsOnBoard to rest h) (All-tail IsOnBoard to rest h)
caps_within here (Curve to centre ccw ∷ segs) k h =
    let rest = flat_map points_of_seg segs in
    let behind = All-tail IsOnBoard to (centre ∷ rest) h in
    All-cons (λ c. IsBoxWithin inner (box_of_cap c)) (record { from = here; to = to; centre = centre; ccw = ccw }) (caps_from to segs)
    (circle_within centre here (All-head IsOnBoard centre rest behind) k)
    (caps_within to segs (All-head IsOnBoard to (centre ∷ rest) h) (All-tail IsOnBoard centre rest behind))

pub contour_within : (c : Contour) → All IsOnBoard (points_of_contour c) → IsBoxWithin inner (box_of_contour c)
contour_within c h =
    let rest = flat_map points_of_seg c.segs in
    let start = All-head IsOnBoard c.start rest h in
    let behind = All-tail IsOnBoard c.start rest h in
    within_join inner (box_of_all box_of_point (c.start ∷ map end_of c.segs)) (box_of_all box_of_cap (caps_of c))
    (within_all inner box_of_point (c.start ∷ map end_of c.segs)
    (All-cons (λ p. IsBoxWithin inner (box_of_point p)) c.start (map end_of c.segs) (board_point c.start start)
    (ends_within c.segs behind)))
    (within_all inner box_of_cap (caps_of c) (caps_within c.start c.segs start behind))

at_first : (p : Point) (ps : List Point) → All IsOnBoard (p ∷ ps) → IsOnBoard p
at_first p ps h = All-head IsOnBoard p ps h

at_second : (p q : Point) (ps : List Point) → All IsOnBoard (p ∷ q ∷ ps) → IsOnBoard q
at_second p q ps h = All-head IsOnBoard q ps (All-tail IsOnBoard p (q ∷ ps) h)

at_third : (p q r : Point) (ps : List Point) → All IsOnBoard (p ∷ q ∷ r ∷ ps) → IsOnBoard r
at_third p q r ps h = All-head IsOnBoard r ps (All-tail IsOnBoard q (r ∷ ps) (All-tail IsOnBoard p (q ∷ r ∷ ps) h))

pub ends_of_stroke : (from to : Point) → IsOnBoard from → IsOnBoard to → IsBoxWithin inner (join_of (box_of_point from) (box_of_point to))
ends_of_stroke from to h k = within_join inner (box_of_point from) (box_of_point to) (board_point from h) (board_point to k)

-- the box of two points spans theirs
pub ends_spanned : (from to : Point) → IsOnBoard from → IsOnBoard to
    → join_of (box_of_point from) (box_of_point to) ≡ span_of (box_of_point from) (box_of_point to)
ends_spanned from to h k =
    let here = has_place inner (place_of from) (place_of from) (board_point from h) in
    let there = has_place inner (place_of to) (place_of to) (board_point to k) in
    λ i. joined (here i) (there i) (box_of_point from) (box_of_point to)

-- a rectangle about a point of the board
pub board_rectangle : (p : Point) (w h : ℤ) → IsOnBoard p → IsSize w → IsSize h → IsBoxWithin inner (box_about (place_of p) w h)
board_rectangle p w h on a b = search (rules, within_less, within_about)

-- the box of a leaf of the board reaches less than 2^33 half nm
pub shape_within : (s : Shape) → IsSizedShape s → All IsOnBoard (points_of_shape s) → IsBoxWithin reach (box_of_shape s)
shape_within (Stamp a t at) h k =
    let o = at_first at [] k in
    within_less (small + 2 * 1000000000) reach (box_of_shape (Stamp a t at)) (omega arith)
    (within_moved 1000000000 small at (template_bounds t a) (omega (arith, o.x)) (omega (arith, o.y)) (template_within t a h))
shape_within (Stroke c) h k =
    within_less (inner + 200000000) reach (box_of_shape (Stroke c)) (omega arith)
    (within_widened 200000000 inner c.width.0 (join_of (box_of_point c.from) (box_of_point c.to)) h.0 h.1
    (ends_of_stroke c.from c.to (at_first c.from (c.to ∷ []) k) (at_second c.from c.to [] k)))
shape_within (Swept r) h k =
    let from = at_first r.from (r.to ∷ []) k in
    let to = at_second r.from r.to [] k in
    within_less inner reach (box_of_shape (Swept r)) (omega arith)
    (within_join inner (box_about (place_of r.from) r.width.0 r.height.0) (box_about (place_of r.to) r.width.0 r.height.0)
    (board_rectangle r.from r.width.0 r.height.0 from h.0 h.1) (board_rectangle r.to r.width.0 r.height.0 to h.0 h.1))
shape_within (Sweep a) h k =
    let from = at_first a.from (a.to ∷ a.centre ∷ []) k in
    let to = at_second a.from a.to (a.centre ∷ []) k in
    let centre = at_third a.from a.to a.centre [] k in
    within_less (inner + 200000000) reach (box_of_shape (Sweep a)) (omega arith)
    (within_widened 200000000 inner a.width.0 (join_of (circle_square a.centre a.from) (join_of (box_of_point a.from) (box_of_point a.to)))
    h.0 h.1
    (within_join inner (circle_square a.centre a.from) (join_of (box_of_point a.from) (box_of_point a.to))
    (circle_within a.centre a.from centre from) (ends_of_stroke a.from a.to from to)))
shape_within (Filled c) h k = within_less inner reach (box_of_contour c) (omega arith) (contour_within c k)
shape_within (Drilled d) h k =
    let centre = at_first d.centre [] k in
    within_less (2 * 1000000000 + 200000000) reach (box_about (place_of d.centre) d.diameter.0 d.diameter.0) (omega arith)
    (within_about 1000000000 200000000 d.centre d.diameter.0 d.diameter.0 (omega (arith, centre.x))
    (omega (arith, centre.y)) h.0 h.1 h.0 h.1)

pub leaves_within : (ls : List Leaf) → AreSized ls → AreOnBoard ls → All (λ l. IsBoxWithin reach (box_of_shape l.shape)) ls
leaves_within [] h k = All-nil (λ l. IsBoxWithin reach (box_of_shape l.shape))
leaves_within (l ∷ ls) h k =
    grind (
      arith,
      All-cons,
      IsBoxWithin,
      shape_within,
      All-head,
      All-tail,
      leaves_within ls (All-tail (λ l. IsSizedShape l.shape) l ls h) (All-tail (λ l. All IsOnBoard (points_of_shape l.shape)) l ls k),
    )

pub bounds_within : (ls : List Leaf) → AreSized ls → AreOnBoard ls → IsBoxWithin reach (bounds_of ls)
bounds_within ls h k = within_all reach (λ l. box_of_shape l.shape) ls (leaves_within ls h k)
