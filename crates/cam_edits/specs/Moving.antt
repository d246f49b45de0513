-- Items that can be moved and moved back.
use Rattle.std.specs.Prelude.{ℤ, All}
use Rattle.cam_units.specs.declared.point.Point.{Point}
use Rattle.cam_shapes.specs.Shifting.{IsShiftable, shifted_point}
use Rattle.cam_shapes.specs.declared.segments.Seg.{Seg}
use Rattle.cam_shapes.specs.declared.segments.Seg.TheVariants.{Line, Curve}
use Rattle.cam_shapes.specs.declared.contour.Contour.{Contour}
use Rattle.cam_objects.specs.declared.object.Object.{Object}
use Rattle.cam_objects.specs.declared.object.Object.TheVariants.{Flash, Draw, Arc, Region}
use Rattle.cam_objects.specs.declared.item.Item.{Item}
use Rattle.cam_objects.specs.declared.item.Item.TheVariants.{One, Repeat}
use Rattle.cam_objects.specs.declared.drill_item.DrillItem.{DrillItem}
use Rattle.cam_objects.specs.declared.drill_item.DrillItem.TheVariants.{Hit, Rout}

-- the way of a move: so many nm to the right, and so many up
abbrev pub way : ℤ → ℤ → Point
way dx dy = record { x = dx; y = dy }

-- each control point has room to be moved, and has it still where it is moved to
abbrev pub IsMovablePoint : Point → Point → Type 0
IsMovablePoint by p = IsShiftable p × IsShiftable (shifted_point by p)

abbrev pub IsMovableSeg : Point → Seg → Type 0
IsMovableSeg by (Line to) = IsMovablePoint by to
IsMovableSeg by (Curve to centre ccw) = IsMovablePoint by to × IsMovablePoint by centre

abbrev pub IsMovableContour : Point → Contour → Type 0
IsMovableContour by c = IsMovablePoint by c.start × All (IsMovableSeg by) c.segs

abbrev pub IsMovableObject : Point → Object → Type 0
IsMovableObject by (Flash n at t dark) = IsMovablePoint by at
IsMovableObject by (Draw n from to t dark) = IsMovablePoint by from × IsMovablePoint by to
IsMovableObject by (Arc ccw dark n from to centre) =
    IsMovablePoint by from × IsMovablePoint by to × IsMovablePoint by centre
IsMovableObject by (Region contour dark) = IsMovableContour by contour

abbrev pub IsMovableItem : Point → Item → Type 0
IsMovableItem by (One object) = IsMovableObject by object
IsMovableItem by (Repeat columns rows i j objects) = All (IsMovableObject by) objects

abbrev pub IsMovableDrillItem : Point → DrillItem → Type 0
IsMovableDrillItem by (Hit tool at) = IsMovablePoint by at
IsMovableDrillItem by (Rout tool points) = All (IsMovablePoint by) points
