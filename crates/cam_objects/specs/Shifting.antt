-- Objects and items that are moved: each control point is shifted by so many nm.
use Rattle.std.specs.Prelude.{◌≤◌, map, All}
use Rattle.std.specs.Int.RustNames.{unsigned_abs}
use Rattle.cam_units.specs.declared.point.Point.{Point}
use Rattle.cam_shapes.specs.Shifting.{IsShiftable, IsShiftableContour, shifted_contour, shifted_point}
use Rattle.cam_objects.specs.Limits.{move_limit}
use Rattle.cam_objects.specs.declared.object.Object.{Object}
use Rattle.cam_objects.specs.declared.object.Object.TheVariants.{Flash, Draw, Arc, Region}
use Rattle.cam_objects.specs.declared.item.Item.{Item}
use Rattle.cam_objects.specs.declared.item.Item.TheVariants.{One, Repeat}
use Rattle.cam_objects.specs.declared.drill_item.DrillItem.{DrillItem}
use Rattle.cam_objects.specs.declared.drill_item.DrillItem.TheVariants.{Hit, Rout}

abbrev pub shifted_object : Point → Object → Object
shifted_object by (Flash n at t dark) = Flash n (shifted_point by at) t dark
shifted_object by (Draw n from to t dark) = Draw n (shifted_point by from) (shifted_point by to) t dark
shifted_object by (Arc ccw dark n from to centre) =
    Arc ccw dark n (shifted_point by from) (shifted_point by to) (shifted_point by centre)
shifted_object by (Region contour dark) = Region (shifted_contour by contour) dark

-- of a repeat the objects of each copy
abbrev pub shifted_item : Point → Item → Item
shifted_item by (One object) = One (shifted_object by object)
shifted_item by (Repeat columns rows i j objects) = Repeat columns rows i j (map (shifted_object by) objects)

abbrev pub shifted_drill_item : Point → DrillItem → DrillItem
shifted_drill_item by (Hit tool at) = Hit tool (shifted_point by at)
shifted_drill_item by (Rout tool points) = Rout tool (map (shifted_point by) points)

-- each control point has room to be moved
abbrev pub IsShiftableObject : Object → Type 0
IsShiftableObject (Flash n at t dark) = IsShiftable at
IsShiftableObject (Draw n from to t dark) = IsShiftable from × IsShiftable to
IsShiftableObject (Arc ccw dark n from to centre) = IsShiftable from × IsShiftable to × IsShiftable centre
IsShiftableObject (Region contour dark) = IsShiftableContour contour

abbrev pub IsShiftableItem : Item → Type 0
IsShiftableItem (One object) = IsShiftableObject object
IsShiftableItem (Repeat columns rows i j objects) = All IsShiftableObject objects

abbrev pub IsShiftableDrillItem : DrillItem → Type 0
IsShiftableDrillItem (Hit tool at) = IsShiftable at
IsShiftableDrillItem (Rout tool points) = All IsShiftable points

-- so far may an item be moved at once: at most four metres along each axis
pub record IsMove (by : Point) : Type 0 where
  pub x : unsigned_abs by.x ≤ move_limit
  pub y : unsigned_abs by.y ≤ move_limit
