-- Items that are moved on the board go no long way, and can be moved back.
use Rattle.std.proofs.Common.{ℕ, ◌<◌, ◌≤◌, ℤ, ◌+ℤ◌, List, [], ◌∷◌, length, map, arith}
use Rattle.std.specs.List.{All, flat_map}
use Rattle.std.specs.Int.RustNames.{unsigned_abs}
use Rattle.std.proofs.lemmas.Int.{ints}
use Rattle.std.proofs.lemmas.List.Elements.{All-cons, All-head, All-nil, All-tail}
use Rattle.cam_units.specs.Board.{IsOnBoard}
use Rattle.cam_units.specs.declared.length.Nm.{Nm}
use Rattle.cam_units.specs.declared.point.Point.{Point}
use Rattle.cam_shapes.specs.declared.segments.Seg.{Seg}
use Rattle.cam_shapes.specs.declared.segments.Seg.TheVariants.{Line, Curve}
use Rattle.cam_shapes.specs.Shifting.{IsShiftable, shifted_point, shifted_seg}
use Rattle.cam_objects.specs.declared.drill_item.DrillItem.{DrillItem}
use Rattle.cam_objects.specs.declared.drill_item.DrillItem.TheVariants.{Hit, Rout}
use Rattle.cam_objects.specs.declared.entry.Entry.{Entry}
use Rattle.cam_objects.specs.declared.object.Object.{Object}
use Rattle.cam_objects.specs.declared.object.Object.TheVariants.{Flash, Draw, Arc, Region}
use Rattle.cam_objects.specs.declared.item.Item.{Item}
use Rattle.cam_objects.specs.declared.item.Item.TheVariants.{One, Repeat}
use Rattle.cam_objects.specs.DrillSoundness.{IsSoundDrillItem, drill_points_of}
use Rattle.cam_objects.specs.Shifting.{IsMove, shifted_drill_item, shifted_item, shifted_object}
use Rattle.cam_objects.specs.Soundness.{IsInside, IsSoundItem, points_of, points_of_seg}
use Rattle.cam_edits.specs.Moving.{IsMovableDrillItem, IsMovableItem, IsMovableObject, IsMovablePoint, IsMovableSeg}
use Rattle.cam_objects.proofs.SoundItems.{meets, meets_drill}

-- ---- points

short_way : (a n : ℤ) → unsigned_abs a < 1000000000 → unsigned_abs (a +ℤ n) < 1000000000 → unsigned_abs n ≤ 4000000000
short_way a n p q = omega (arith, ints)

pub shiftable_way : (by : Point) → IsMove by → IsShiftable by
shiftable_way by h = record { x = omega (arith, h.x); y = omega (arith, h.y) }

shiftable : (p : Point) → IsOnBoard p → IsShiftable p
shiftable p h = record { x = omega (arith, h.x); y = omega (arith, h.y) }

module _ (by : Point) where
  -- what leads from the board to the board is no long way
  short_move : (p : Point) → IsOnBoard p → IsOnBoard (shifted_point by p) → IsMove by
  short_move p here there = record { x = short_way p.x by.x here.x there.x; y = short_way p.y by.y here.y there.y }

  movable : (p : Point) → IsOnBoard p → IsOnBoard (shifted_point by p) → IsMovablePoint by p
  movable p here there = (shiftable p here, shiftable (shifted_point by p) there)

  -- the first of points that are moved on the board
  module _ (p : Point) (ps qs : List Point) (h : All IsOnBoard (p ∷ ps))
      (k : All IsOnBoard (shifted_point by p ∷ qs)) where
    short_first : IsMove by
    short_first = short_move p (All-head IsOnBoard p ps h) (All-head IsOnBoard (shifted_point by p) qs k)

    movable_first : IsMovablePoint by p
    movable_first = movable p (All-head IsOnBoard p ps h) (All-head IsOnBoard (shifted_point by p) qs k)

    rest_here : All IsOnBoard ps
    rest_here = All-tail IsOnBoard p ps h

    rest_there : All IsOnBoard qs
    rest_there = All-tail IsOnBoard (shifted_point by p) qs k

  -- ---- segments and objects

  movable_segs : (segs : List Seg) → All IsOnBoard (flat_map points_of_seg segs)
      → All IsOnBoard (flat_map points_of_seg (map (shifted_seg by) segs)) → All (IsMovableSeg by) segs
  movable_segs [] h k = All-nil (IsMovableSeg by)
  movable_segs (Line to ∷ segs) h k =
      let ps : List Point = flat_map points_of_seg segs in
      let qs : List Point = flat_map points_of_seg (map (shifted_seg by) segs) in
      All-cons (IsMovableSeg by) (Line to) segs (movable_first to ps qs h k)
      (movable_segs segs (rest_here to ps qs h k) (rest_there to ps qs h k))
  movable_segs (Curve to centre ccw ∷ segs) h k =
      let ps : List Point = flat_map points_of_seg segs in
      let qs : List Point = flat_map points_of_seg (map (shifted_seg by) segs) in
      let here = rest_here to (centre ∷ ps) (shifted_point by centre ∷ qs) h k in
      let there = rest_there to (centre ∷ ps) (shifted_point by centre ∷ qs) h k in
      All-cons (IsMovableSeg by) (Curve to centre ccw) segs
      (movable_first to (centre ∷ ps) (shifted_point by centre ∷ qs) h k, movable_first centre ps qs here there)
      (movable_segs segs (rest_here centre ps qs here there) (rest_there centre ps qs here there))

  movable_object : (o : Object) → All IsOnBoard (points_of o) → All IsOnBoard (points_of (shifted_object by o))
      → IsMovableObject by o
  movable_object (Flash n at t dark) h k = movable_first at [] [] h k
  movable_object (Draw n from to t dark) h k =
      let here = rest_here from (to ∷ []) (shifted_point by to ∷ []) h k in
      let there = rest_there from (to ∷ []) (shifted_point by to ∷ []) h k in
      (movable_first from (to ∷ []) (shifted_point by to ∷ []) h k, movable_first to [] [] here there)
  movable_object (Arc ccw dark n from to centre) h k =
      let ps : List Point = to ∷ centre ∷ [] in
      let qs : List Point = shifted_point by to ∷ shifted_point by centre ∷ [] in
      let here = rest_here from ps qs h k in
      let there = rest_there from ps qs h k in (
        movable_first from ps qs h k,
        movable_first to (centre ∷ []) (shifted_point by centre ∷ []) here there,
        movable_first centre [] []
            (rest_here to (centre ∷ []) (shifted_point by centre ∷ []) here there)
            (rest_there to (centre ∷ []) (shifted_point by centre ∷ []) here there),
      )
  movable_object (Region contour dark) h k =
      let ps : List Point = flat_map points_of_seg contour.segs in
      let qs : List Point = flat_map points_of_seg (map (shifted_seg by) contour.segs) in (
        movable_first contour.start ps qs h k,
        movable_segs contour.segs (rest_here contour.start ps qs h k) (rest_there contour.start ps qs h k),
      )

  -- an object of the board that is moved on the board goes no long way
  short_object : (o : Object) → All IsOnBoard (points_of o) → All IsOnBoard (points_of (shifted_object by o))
      → IsMove by
  short_object o h k = grind arith

  -- ---- items

  abbrev AreStanding : Object → Type 0
  AreStanding o = All IsOnBoard (points_of o)

  movable_objects : (os : List Object) → All AreStanding os → All AreStanding (map (shifted_object by) os)
      → All (IsMovableObject by) os
  movable_objects [] h k = All-nil (IsMovableObject by)
  movable_objects (o ∷ os) h k =
      let moved : List Object = map (shifted_object by) os in
      All-cons (IsMovableObject by) o os
      (movable_object o (All-head AreStanding o os h) (All-head AreStanding (shifted_object by o) moved k))
      (movable_objects os (All-tail AreStanding o os h) (All-tail AreStanding (shifted_object by o) moved k))

  short_objects : (os : List Object) → 0 < length os → All AreStanding os → All AreStanding (map (shifted_object by) os)
      → IsMove by
  short_objects [] some h k = absurd (omega arith)
  short_objects (o ∷ os) some h k = grind (arith, short_object, All-head)

  module _ (es : List (ℕ × Entry)) where
    -- a sound item that is moved on the board goes no long way
    pub short_item : (item : Item) → IsSoundItem es item → IsInside es (shifted_item by item) → IsMove by
    short_item (One o) h inside = short_objects (o ∷ []) (omega arith) (meets es (One o) h).inside.points inside.points
    short_item (Repeat columns rows i j os) h inside = grind (arith, meets, short_objects)

    -- and can be moved back
    pub movable_item : (item : Item) → IsSoundItem es item → IsInside es (shifted_item by item) → IsMovableItem by item
    movable_item (One o) h inside = grind (arith, movable_object, All-head, meets)
    movable_item (Repeat columns rows i j os) h inside = grind (arith, movable_objects, meets)

  -- ---- drill items

  short_points : (points : List Point) → 0 < length points → All IsOnBoard points
      → All IsOnBoard (map (shifted_point by) points) → IsMove by
  short_points [] some h k = absurd (omega arith)
  short_points (p ∷ points) some h k = short_first p points (map (shifted_point by) points) h k

  movable_points : (points : List Point) → All IsOnBoard points → All IsOnBoard (map (shifted_point by) points)
      → All (IsMovablePoint by) points
  movable_points [] h k = All-nil (IsMovablePoint by)
  movable_points (p ∷ points) h k =
      let moved : List Point = map (shifted_point by) points in
      All-cons (IsMovablePoint by) p points (movable_first p points moved h k)
      (movable_points points (rest_here p points moved h k) (rest_there p points moved h k))

  module _ (tools : List (ℕ × Nm)) where
    pub short_drill_item : (item : DrillItem) → IsSoundDrillItem tools item
        → All IsOnBoard (drill_points_of (shifted_drill_item by item)) → IsMove by
    short_drill_item (Hit tool at) h inside =
        short_points (at ∷ []) (omega arith) (meets_drill tools (Hit tool at) h).inside inside
    short_drill_item (Rout tool points) h inside =
        let m = meets_drill tools (Rout tool points) h in short_points points m.some m.inside inside

    pub movable_drill_item : (item : DrillItem) → IsSoundDrillItem tools item
        → All IsOnBoard (drill_points_of (shifted_drill_item by item)) → IsMovableDrillItem by item
    movable_drill_item (Hit tool at) h inside =
        movable_first at [] [] (meets_drill tools (Hit tool at) h).inside inside
    movable_drill_item (Rout tool points) h inside =
        movable_points points (meets_drill tools (Rout tool points) h).inside inside
