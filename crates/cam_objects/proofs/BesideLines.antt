-- what a draw covers lies near its line, and what that makes of boxes
use Rattle.std.proofs.Common.{rules}
use Rattle.std.proofs.Common.{◌≡◌, ℕ, ◌+◌, ◌*◌, ◌<◌, ◌≤◌, ℤ, pos, ◌-ℤ◌, ◌*ℤ◌, ◌≤ℤ◌, ◌<ℤ◌, inl, inr, Bool, List, get_or, slice_get, Some, ap, sym, subst, ◌∙◌, arith}
use Rattle.std.specs.Int.RustNames.{unsigned_abs}
use Rattle.std.proofs.lemmas.Int.{ints}
use Rattle.std.proofs.lemmas.List.Elements.{All-cons, All-nil}
use Rattle.std.proofs.lemmas.Option.{get_or_from_slice_get}
use Rattle.cam_refusals.specs.Limits.{board_limit}
use Rattle.cam_units.specs.Board.{IsOnBoard, IsPlace, place_limit}
use Rattle.cam_units.specs.Boxes.{Holds, IsInBox}
use Rattle.cam_units.specs.declared.bounds.Bounds.{Bounds}
use Rattle.cam_units.specs.declared.bounds.Bounds.TheVariants.{Closed}
use Rattle.cam_units.specs.declared.length.Nm.{Nm}
use Rattle.cam_units.specs.declared.point.Point.{Point}
use Rattle.cam_units.specs.declared.point.Spot.{Spot}
use Rattle.cam_units.specs.declared.turn.Turn.{Turn}
use Rattle.cam_units.specs.declared.turn.Turn.TheVariants.{R0}
use Rattle.cam_units.proofs.Ring.{Atom, Difference, Product, equal}
use Rattle.cam_shapes.specs.Bar.{IsInCapsule, IsNearLine, IsNearSegment}
use Rattle.cam_shapes.specs.Plane.{cross, place_of, seen_from, way}
use Rattle.cam_shapes.specs.Swept.{IsNearWay, corner_reach}
use Rattle.cam_shapes.specs.declared.capsule.Capsule.{Capsule}
use Rattle.cam_shapes.specs.declared.swept.Swept.{Swept}
use Rattle.cam_shapes.specs.declared.vector.Vector.{Vector}
use Rattle.cam_shapes.proofs.Reaches.{leg, other_leg}
use Rattle.cam_shapes.proofs.Strokes.{dot_is, natural_or_not, squares_order}
use Rattle.cam_shapes.proofs.SweptLaws.{at_finish, at_start, cross_from_end}
use Rattle.cam_shapes.proofs.Widths.{square_is}
use Rattle.cam_objects.specs.Image.{Covers, IsUncovered, relative}
use Rattle.cam_objects.specs.Leaves.{drawn, item_leaves, meaning_in, object_leaves, origin, placed, turned_tip}
use Rattle.cam_objects.specs.Machinery.Lines.{IsLeft, crossed, reach_of}
use Rattle.cam_objects.specs.Machinery.Extents.{IsExtentIn}
use Rattle.cam_objects.specs.declared.boxes.extent.Extent.{Extent}
use Rattle.cam_objects.specs.declared.entry.Entry.{Entry}
use Rattle.cam_objects.specs.declared.item.Item.{Item}
use Rattle.cam_objects.specs.declared.item.Item.TheVariants.{One}
use Rattle.cam_objects.specs.declared.layer.Layer.{Layer}
use Rattle.cam_objects.specs.declared.object.Object.{Object}
use Rattle.cam_objects.specs.declared.object.Object.TheVariants.{Draw}
use Rattle.cam_objects.specs.declared.tip.Tip.{Tip}
use Rattle.cam_objects.specs.declared.tip.Tip.TheVariants.{Round}
use Rattle.cam_objects.proofs.TurnedTips.{turned_after}

-- ---- round strokes: those of a square as wide cover more

abbrev square_stroke : Capsule → Swept
square_stroke c = record { from = c.from; to = c.to; width = c.width; height = c.width }

within_side : (x w : ℤ) → pos 0 <ℤ w → unsigned_abs x ≤ unsigned_abs w → pos (unsigned_abs x) ≤ℤ w
within_side x w wide h = omega (arith, ints)

-- a root of w * w * (x * x + y * y) is at most w * (x + y)
root_of_both : (c w x y : ℕ) → c * c ≤ w * w * (x * x + y * y) → c ≤ w * y + w * x
root_of_both c w x y h = squares_order c (w * y + w * x) (omega arith)

natural_order : (z : ℤ) (m n : ℕ) → z ≡ pos m → z ≤ℤ pos n → m ≤ n
natural_order z m n e h = omega (arith, ints)

beside_natural : (a v : Vector) (n : ℕ) → IsNearLine a v (pos n) → IsNearWay a v (pos n) (pos n)
beside_natural a v n near = grind (arith, natural_order, square_is, dot_is, ints, root_of_both)

beside_line : (a v : Vector) (w : ℤ) → pos 0 <ℤ w → IsNearLine a v w → IsNearWay a v w w
beside_line a v w wide near = grind (arith, natural_or_not, beside_natural)

near_segment : (s : Spot) (c : Capsule) → pos 0 <ℤ c.width.0 → IsNearSegment s c
    → IsNearWay (way c.from c.to) (seen_from c.from s) c.width.0 c.width.0
near_segment s c wide (inl start) =
    let v = seen_from c.from s in
    (at_start s (square_stroke c)
    (record {
      wide = wide;
      high = wide;
      between = record {
        across = within_side v.x c.width.0 wide (leg v c.width.0 start);
        along = within_side v.y c.width.0 wide (other_leg v c.width.0 start);
      };
    })).near
near_segment s c wide (inr (inl finish)) =
    let v = seen_from c.to s in
    (at_finish s (square_stroke c)
    (record {
      wide = wide;
      high = wide;
      between = record {
        across = within_side v.x c.width.0 wide (leg v c.width.0 finish);
        along = within_side v.y c.width.0 wide (other_leg v c.width.0 finish);
      };
    })).near
near_segment s c wide (inr (inr beside)) = search (rules, beside_line)

pub near_capsule : (s : Spot) (c : Capsule) → IsInCapsule s c
    → IsNearWay (way c.from c.to) (seen_from c.from s) c.width.0 c.width.0
near_capsule s c inside = near_segment s c inside.wide inside.near

-- ---- corners of boxes

times_natural : (n : ℕ) (d : ℤ) → pos 0 ≤ℤ d → pos 0 ≤ℤ (pos n *ℤ d)
times_natural n d h = grind (arith, ints)

up_times : (a u v : ℤ) → a *ℤ (v -ℤ u) ≡ a *ℤ v -ℤ a *ℤ u
up_times a u v =
    equal (Product (Atom a) (Difference (Atom v) (Atom u)))
    (Difference (Product (Atom a) (Atom v)) (Product (Atom a) (Atom u))) (omega arith)

down_times : (a u v : ℤ) → (pos 0 -ℤ a) *ℤ (v -ℤ u) ≡ a *ℤ u -ℤ a *ℤ v
down_times a u v =
    equal (Product (Difference (Atom (pos 0)) (Atom a)) (Difference (Atom v) (Atom u)))
    (Difference (Product (Atom a) (Atom u)) (Product (Atom a) (Atom v))) (omega arith)

gap : (u v : ℤ) → u ≤ℤ v → pos 0 ≤ℤ (v -ℤ u)
gap u v h = omega (arith, ints)

at_least : (z u v : ℤ) → z ≡ v -ℤ u → pos 0 ≤ℤ z → u ≤ℤ v
at_least z u v e h = omega (arith, ints)

some_times : (a d : ℤ) → pos 0 ≤ℤ a → pos 0 ≤ℤ d → pos 0 ≤ℤ (a *ℤ d)
some_times a d some h = grind (arith, times_natural, ints)

pub times_up : (a u v : ℤ) → pos 0 ≤ℤ a → u ≤ℤ v → (a *ℤ u) ≤ℤ (a *ℤ v)
times_up a u v some h =
    at_least (a *ℤ (v -ℤ u)) (a *ℤ u) (a *ℤ v) (up_times a u v) (some_times a (v -ℤ u) some (gap u v h))

pub times_down : (a u v : ℤ) → a ≤ℤ pos 0 → u ≤ℤ v → (a *ℤ v) ≤ℤ (a *ℤ u)
times_down a u v none h = grind (arith, at_least, down_times, some_times, ints, gap)

pub less_apart : (u v p q : ℤ) → u ≤ℤ v → q ≤ℤ p → (u -ℤ p) ≤ℤ (v -ℤ q)
less_apart u v p q h k = omega (arith, ints)

pub far_below : (a e u d low : ℤ) → a ≤ℤ pos 0 → e ≡ low → low ≤ℤ u → (a *ℤ (u -ℤ d)) ≤ℤ (a *ℤ (e -ℤ d))
far_below a e u d low none is h = times_down a (e -ℤ d) (u -ℤ d) none (omega (arith, ints))

pub far_above : (a e u d high : ℤ) → pos 0 ≤ℤ a → e ≡ high → u ≤ℤ high → (a *ℤ (u -ℤ d)) ≤ℤ (a *ℤ (e -ℤ d))
far_above a e u d high some is h = times_up a (u -ℤ d) (e -ℤ d) some (omega (arith, ints))

pub near_above : (a e u d high : ℤ) → a ≤ℤ pos 0 → e ≡ high → u ≤ℤ high → (a *ℤ (e -ℤ d)) ≤ℤ (a *ℤ (u -ℤ d))
near_above a e u d high none is h = times_down a (u -ℤ d) (e -ℤ d) none (omega (arith, ints))

pub near_below : (a e u d low : ℤ) → pos 0 ≤ℤ a → e ≡ low → low ≤ℤ u → (a *ℤ (e -ℤ d)) ≤ℤ (a *ℤ (u -ℤ d))
near_below a e u d low some is h = times_up a (e -ℤ d) (u -ℤ d) some (omega (arith, ints))

twice_near : (x : ℤ) → unsigned_abs x < board_limit → unsigned_abs (pos 2 *ℤ x) < place_limit
twice_near x h = omega (arith, ints)

pub place_on_board : (p : Point) (s : Spot) → s ≡ place_of p → IsOnBoard p → IsPlace s
place_on_board p s is board = grind (arith, twice_near)

-- ---- beyond a line, on either side

further : (r n p q t : ℤ) → n ≡ r → p ≡ q → n <ℤ p → q ≤ℤ t → r <ℤ t
further r n p q t e f h k = omega (arith, ints)

too_far : (c r : ℤ) → r <ℤ c → pos (unsigned_abs c) ≤ℤ r → ⊥
too_far c r far near = omega (arith, ints)

pub left_far : (from to : Point) (w h : ℤ) (s : Spot) → IsLeft from to w h s
    → IsNearWay (way from to) (seen_from from s) w h → ⊥
left_far from to w h s left near = grind (arith, too_far)

backwards : (ax ay bx by vx vy : ℤ) → bx ≡ pos 0 -ℤ ax → by ≡ pos 0 -ℤ ay
    → bx *ℤ vy -ℤ by *ℤ vx ≡ pos 0 -ℤ (ax *ℤ vy -ℤ ay *ℤ vx)
backwards ax ay bx by vx vy e f =
    rw (e, f)
    (equal
    (Difference (Product (Difference (Atom (pos 0)) (Atom ax)) (Atom vy))
    (Product (Difference (Atom (pos 0)) (Atom ay)) (Atom vx)))
    (Difference (Atom (pos 0)) (Difference (Product (Atom ax) (Atom vy)) (Product (Atom ay) (Atom vx))))
    (omega arith))

way_back : (p q : ℤ) → pos 2 *ℤ p -ℤ pos 2 *ℤ q ≡ pos 0 -ℤ (pos 2 *ℤ q -ℤ pos 2 *ℤ p)
way_back p q = omega (arith, ints)

as_long : (p q : ℤ) → unsigned_abs (pos 2 *ℤ p -ℤ pos 2 *ℤ q) ≡ unsigned_abs (pos 2 *ℤ q -ℤ pos 2 *ℤ p)
as_long p q = omega (arith, ints)

reach_back : (from to : Point) (w h : ℤ) → corner_reach (way to from) w h ≡ corner_reach (way from to) w h
reach_back from to w h = grind (arith, as_long)

cross_back : (from to : Point) (s : Spot)
    → cross (way to from) (seen_from to s) ≡ pos 0 -ℤ cross (way from to) (seen_from from s)
cross_back from to s =
    let a = way from to in
    let v = seen_from to s in
    backwards a.x a.y (way to from).x (way to from).y v.x v.y (way_back from.x to.x) (way_back from.y to.y)
    ∙ ap (λ (z : ℤ). pos 0 -ℤ z) (sym (cross_from_end from to s))

too_far_back : (c d r t : ℤ) → d ≡ pos 0 -ℤ c → t ≡ r → t <ℤ d → pos (unsigned_abs c) ≤ℤ r → ⊥
too_far_back c d r t e f far near = omega (arith, ints)

pub right_far : (from to : Point) (w h : ℤ) (s : Spot) → IsLeft to from w h s
    → IsNearWay (way from to) (seen_from from s) w h → ⊥
right_far from to w h s left near = search (rules, too_far_back, cross_back, reach_back)

pub left_of : (from to : Point) (w h : ℤ) (s place a nearest right : Spot) (n : ℕ)
    → place ≡ place_of to → a ≡ relative from place → nearest ≡ relative from right → pos n ≡ reach_of a w h
    → pos n <ℤ crossed a nearest → crossed a (relative from right) ≤ℤ crossed a (relative from s) → IsLeft from to w h s
left_of from to w h s place a nearest right n at is seen reach far least =
    subst (λ (b : Spot). reach_of b w h <ℤ crossed b (relative from s)) (is ∙ ap (λ (q : Spot). relative from q) at)
    (further (reach_of a w h) (pos n) (crossed a nearest) (crossed a (relative from right)) (crossed a (relative from s))
    reach (ap (λ (v : Spot). crossed a v) seen) far least)

-- ---- draws

pub round_missed : (tip : Tip) (w : Nm) (from to : Point) (within : Bounds) (low high : Spot)
    → tip ≡ Round w → within ≡ Closed low high
    → ((s : Spot) → IsInBox low high s → IsNearWay (way from to) (seen_from from s) w.0 w.0 → ⊥)
    → (s : Spot) → Holds within s → Covers (drawn tip from to) s → ⊥
round_missed tip w from to within low high round box far s held on =
    let inside : IsInCapsule s (record { from = from; to = to; width = w }) =
    subst (λ (t : Tip). Covers (drawn t from to) s) round on in
    far s (subst (λ (b : Bounds). Holds b s) box held) (near_capsule s (record { from = from; to = to; width = w }) inside)

-- where a layer's own draws stand
unturned : (tip : Tip) → turned_tip R0 tip ≡ tip
unturned tip = grind arith

unmoved : (p : Point) → placed origin p ≡ p
unmoved p = grind (arith, ints)

pub draw_missed : (es : List (ℕ × Entry)) (e : Extent) → IsExtentIn es e → (n : ℕ) → e.number ≡ n → (from to : Point) (t : Turn)
    (dark : Bool) (tip turned : Tip) → e.tip ≡ Some tip → turned ≡ turned_tip t tip → (s : Spot)
    → (Covers (drawn turned from to) s → ⊥)
    → IsUncovered (object_leaves (meaning_in es) origin (Draw n from to t dark)) s
draw_missed es e extent n number from to t dark tip turned some is s off =
    grind (arith, turned_after, unturned, unmoved, All-cons, All-nil)

-- the item read is that of the layer shown
pub item_missed : (layer shown : Layer) (place : ℕ) (x item : Item) (o : Object) (s : Spot) → layer ≡ shown
    → x ≡ get_or layer.items.items place x → slice_get shown.items.items place ≡ Some item → x ≡ One o
    → IsUncovered (object_leaves (meaning_in layer.apertures) origin o) s
    → IsUncovered (item_leaves (meaning_in shown.apertures) item) s
item_missed layer shown place x item o s is here at one off = grind (arith, get_or_from_slice_get)
