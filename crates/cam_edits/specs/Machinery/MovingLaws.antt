use Rattle.std.specs.Prelude.{◌≡◌, zero, suc, ℤ, pos, negsuc, ◌+ℤ◌, neg_ℤ, unsigned_abs, List, [], ◌∷◌, map, All}
use Rattle.std.proofs.Common.{refl, ap}
use Rattle.std.proofs.Math.IntN.{+ℤ-neg_ℤ_cancel, neg_ℤ-neg_ℤ}
use Rattle.std.proofs.lemmas.List.Elements.{All-map, All-weaker}
use Rattle.cam_units.specs.declared.point.Point.{Point}
use Rattle.cam_shapes.specs.Shifting.{IsShiftable, shifted_point, shifted_seg}
use Rattle.cam_shapes.specs.declared.segments.Seg.{Seg}
use Rattle.cam_shapes.specs.declared.segments.Seg.TheVariants.{Line, Curve}
use Rattle.cam_objects.specs.Shifting.{shifted_object, shifted_item, shifted_drill_item}
use Rattle.cam_objects.specs.declared.object.Object.{Object}
use Rattle.cam_objects.specs.declared.object.Object.TheVariants.{Flash, Draw, Arc, Region}
use Rattle.cam_objects.specs.declared.item.Item.{Item}
use Rattle.cam_objects.specs.declared.item.Item.TheVariants.{One, Repeat}
use Rattle.cam_objects.specs.declared.drill_item.DrillItem.{DrillItem}
use Rattle.cam_objects.specs.declared.drill_item.DrillItem.TheVariants.{Hit, Rout}
use Rattle.cam_edits.specs.Moving.{IsMovablePoint, IsMovableSeg, IsMovableObject, IsMovableItem, IsMovableDrillItem}

-- the way back
abbrev pub negated : Point → Point
negated by = record { x = neg_ℤ by.x; y = neg_ℤ by.y }

size_negated : (a : ℤ) → unsigned_abs (neg_ℤ a) ≡ unsigned_abs a
size_negated (pos zero) = refl
size_negated (pos (suc n)) = refl
size_negated (negsuc n) = refl

added_back : (a b : ℤ) → (a +ℤ b) +ℤ neg_ℤ b ≡ a
added_back a b = +ℤ-neg_ℤ_cancel a b

pub negated_twice : (by : Point) → negated (negated by) ≡ by
negated_twice by = rw (neg_ℤ-neg_ℤ by.x, neg_ℤ-neg_ℤ by.y) refl

pub shiftable_negated : (by : Point) → IsShiftable by → IsShiftable (negated by)
shiftable_negated by h = record { x = rw (size_negated by.x) h.x; y = rw (size_negated by.y) h.y }

-- ---- what is mapped and mapped back
map_back : {X : Type 0} (f g : X → X) → ((x : X) → g (f x) ≡ x) → (xs : List X) → map g (map f xs) ≡ xs
map_back f g back [] = refl
map_back f g back (x ∷ xs) = rw (back x, map_back f g back xs) refl

all_back : {X : Type 0} (P Q : X → Type 0) (f : X → X) → ((x : X) → P x → Q (f x))
    → (xs : List X) → All P xs → All Q (map f xs)
all_back P Q f step xs h = All-map Q f xs (All-weaker P (λ x. Q (f x)) step xs h)

module _ (by : Point) where
  abbrev pub back : Point
  back = negated by

  -- ---- what is moved and moved back stays as it was
  pub point_back : (p : Point) → shifted_point back (shifted_point by p) ≡ p
  point_back p = rw (added_back p.x by.x, added_back p.y by.y) refl

  seg_back : (seg : Seg) → shifted_seg back (shifted_seg by seg) ≡ seg
  seg_back (Line to) = rw (point_back to) refl
  seg_back (Curve to centre ccw) = rw (point_back to, point_back centre) refl

  object_back : (object : Object) → shifted_object back (shifted_object by object) ≡ object
  object_back (Flash n at t dark) = rw (point_back at) refl
  object_back (Draw n from to t dark) = rw (point_back from, point_back to) refl
  object_back (Arc ccw dark n from to centre) = rw (point_back from, point_back to, point_back centre) refl
  object_back (Region contour dark) =
      rw (point_back contour.start, map_back (shifted_seg by) (shifted_seg back) seg_back contour.segs) refl

  pub item_back : (item : Item) → shifted_item back (shifted_item by item) ≡ item
  item_back (One object) = ap One (object_back object)
  item_back (Repeat columns rows i j objects) =
      ap (Repeat columns rows i j) (map_back (shifted_object by) (shifted_object back) object_back objects)

  pub drill_item_back : (item : DrillItem) → shifted_drill_item back (shifted_drill_item by item) ≡ item
  drill_item_back (Hit tool at) = ap (Hit tool) (point_back at)
  drill_item_back (Rout tool points) =
      ap (Rout tool) (map_back (shifted_point by) (shifted_point back) point_back points)

  -- ---- what can be moved can be moved back
  movable_point : (p : Point) → IsMovablePoint by p → IsMovablePoint back (shifted_point by p)
  movable_point p h = (h.1, rw (point_back p) h.0)

  movable_seg : (seg : Seg) → IsMovableSeg by seg → IsMovableSeg back (shifted_seg by seg)
  movable_seg (Line to) h = movable_point to h
  movable_seg (Curve to centre ccw) h = (movable_point to h.0, movable_point centre h.1)

  movable_object : (object : Object) → IsMovableObject by object → IsMovableObject back (shifted_object by object)
  movable_object (Flash n at t dark) h = movable_point at h
  movable_object (Draw n from to t dark) h = (movable_point from h.0, movable_point to h.1)
  movable_object (Arc ccw dark n from to centre) h =
      (movable_point from h.0, movable_point to h.1, movable_point centre h.2)
  movable_object (Region contour dark) h = (
    movable_point contour.start h.0,
    all_back (IsMovableSeg by) (IsMovableSeg back) (shifted_seg by) movable_seg contour.segs h.1,
  )

  pub movable_item : (item : Item) → IsMovableItem by item → IsMovableItem back (shifted_item by item)
  movable_item (One object) h = movable_object object h
  movable_item (Repeat columns rows i j objects) h =
      all_back (IsMovableObject by) (IsMovableObject back) (shifted_object by) movable_object objects h

  pub movable_drill_item : (item : DrillItem)
      → IsMovableDrillItem by item → IsMovableDrillItem back (shifted_drill_item by item)
  movable_drill_item (Hit tool at) h = movable_point at h
  movable_drill_item (Rout tool points) h =
      all_back (IsMovablePoint by) (IsMovablePoint back) (shifted_point by) movable_point points h
