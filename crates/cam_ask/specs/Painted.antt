-- The boxes of what items paint, by which `in` judges. The boxes by which tiles are touched hold the whole circle that an
-- arc is a part of; the box of what an arc paints is that of its ends and of the points on the axes through its centre
-- that it passes.
use Rattle.std.specs.Prelude.{ℕ, ◌+◌, ◌*◌, ◌-◌, ◌==◌, max, min, ℤ, pos, negsuc, ◌+ℤ◌, ◌*ℤ◌, unsigned_abs, Bool, not, nat_lt, ◌&&◌, ◌||◌, if◌then◌else◌, List, [], ◌∷◌, map, Option, None, Some}
use Rattle.cam_units.specs.Boxes.{Holds, IsWithin, clip_of, join_of}
use Rattle.cam_units.specs.declared.bounds.Bounds.{Bounds}
use Rattle.cam_units.specs.declared.bounds.Bounds.TheVariants.{Empty}
use Rattle.cam_units.specs.declared.length.Nm.{Nm}
use Rattle.cam_units.specs.declared.point.Point.{Point}
use Rattle.cam_units.specs.declared.point.Spot.{Spot}
use Rattle.cam_shapes.specs.declared.arc.Arc.{Arc}
use Rattle.cam_shapes.specs.declared.vector.Vector.{Vector}
use Rattle.cam_shapes.specs.Plane.{dot, place_of, way}
use Rattle.cam_shapes.specs.Tests.{is_in_arc}
use Rattle.cam_apertures.specs.Primitives.{box_about}
use Rattle.cam_objects.specs.declared.item.Item.{Item}
use Rattle.cam_objects.specs.declared.item.Item.TheVariants.{One, Repeat}
use Rattle.cam_objects.specs.declared.object.Object.TheVariants as objects
use Rattle.cam_objects.specs.Bounds.{bounds_of, box_of_all, root}
use Rattle.cam_objects.specs.Cells.{drill_item_boxes}
use Rattle.cam_objects.specs.Leaves.{Meaning, item_leaves, meaning_in, round_width}
use Rattle.cam_objects.specs.Topmost.{IsCoveredBy}
use Rattle.cam_edits.specs.Sheets.{Content, Drill, Gerber}

-- the length of a way, rounded down and up to half nm
abbrev pub floor_of : Vector → ℕ
floor_of v = root (unsigned_abs (dot v v))

abbrev pub ceiling_of : Vector → ℕ
ceiling_of v = if floor_of v * floor_of v == unsigned_abs (dot v v) then floor_of v else floor_of v + 1

-- by how much the distances of both ends from the centre differ at most, in half nm: by nothing where both are the same
-- whole number
abbrev pub slack_of : Vector → Vector → ℕ
slack_of s e = max (ceiling_of s) (ceiling_of e) - min (floor_of s) (floor_of e)

-- how far an arc reaches beyond its line: the pen's radius, and what its ends lie off one circle
abbrev pub reach_of : Arc → ℤ
reach_of a = a.width.0 +ℤ pos (slack_of (way a.centre a.from) (way a.centre a.to))

-- the ways along the axes
abbrev pub right : Vector
right = record { x = pos 1; y = pos 0 }

abbrev pub up : Vector
up = record { x = pos 0; y = pos 1 }

abbrev pub left : Vector
left = record { x = negsuc 0; y = pos 0 }

abbrev pub down : Vector
down = record { x = pos 0; y = negsuc 0 }

-- the place so many half nm from a point along an axis
abbrev pub along : Point → ℕ → Vector → Spot
along centre far axis =
    record { x = pos 2 *ℤ centre.x +ℤ pos far *ℤ axis.x; y = pos 2 *ℤ centre.y +ℤ pos far *ℤ axis.y }

-- the square about a place of an arc
abbrev pub pen_box : Arc → Spot → Bounds
pen_box a s = box_about s (reach_of a) (reach_of a)

-- whether an arc passes a place of its circle, as a stroke of 1 nm along it does; a place two metres or more from the
-- origin along an axis counts as passed
abbrev pub is_passed : Arc → Spot → Bool
is_passed a s =
    not (nat_lt (unsigned_abs s.x) 4000000000 && nat_lt (unsigned_abs s.y) 4000000000)
    || is_in_arc s (record { from = a.from; to = a.to; centre = a.centre; ccw = a.ccw; width = record { 0 = pos 1 } })

-- the square about it, where the arc passes it
abbrev pub passed_box : Arc → Spot → Bounds
passed_box a s = if is_passed a s then pen_box a s else Empty

-- of the place of the circle on an axis
abbrev pub axis_place : Arc → Vector → Spot
axis_place a axis = along a.centre (floor_of (way a.centre a.from)) axis

abbrev pub axis_box : Arc → Vector → Bounds
axis_box a axis = passed_box a (axis_place a axis)

-- the box of what an arc paints: of its ends, and of the points on the axes that it passes
abbrev pub arc_box : Arc → Bounds
arc_box a =
    join_of (join_of (pen_box a (place_of a.from)) (pen_box a (place_of a.to)))
    (box_of_all (axis_box a) (right ∷ up ∷ left ∷ down ∷ []))

-- of an arc of a width; none paints nothing
abbrev pub drawn_box : Option Nm → Point → Point → Point → Bool → Bounds
drawn_box None from to centre ccw = Empty
drawn_box (Some width) from to centre ccw =
    arc_box (record { from = from; to = to; centre = centre; ccw = ccw; width = width })

-- the box of what an item paints: the item's box, and of an arc what of that lies in the box above
abbrev pub painted_box : (ℕ → Meaning) → Item → Bounds
painted_box means (One (objects.Arc ccw dark n from to centre)) =
    clip_of (bounds_of (item_leaves means (One (objects.Arc ccw dark n from to centre))))
    (drawn_box (round_width (means n).tip) from to centre ccw)
painted_box means (One (objects.Flash n at t dark)) = bounds_of (item_leaves means (One (objects.Flash n at t dark)))
painted_box means (One (objects.Draw n from to t dark)) = bounds_of (item_leaves means (One (objects.Draw n from to t dark)))
painted_box means (One (objects.Region contour dark)) = bounds_of (item_leaves means (One (objects.Region contour dark)))
painted_box means (Repeat columns rows i j objects) = bounds_of (item_leaves means (Repeat columns rows i j objects))

-- of each item
abbrev pub painted_boxes : Content → List Bounds
painted_boxes (Gerber c) = map (painted_box (meaning_in c.entries)) c.items
painted_boxes (Drill c) = drill_item_boxes c.tools c.items

-- each place that an item covers lies in the box of what it paints, and this in the item's box
pub record PaintedLaw : Type 0 where
  pub covered : (means : ℕ → Meaning) (item : Item) (s : Spot) → IsCoveredBy (item_leaves means item) s → Holds (painted_box means item) s
  pub within : (means : ℕ → Meaning) (item : Item) → IsWithin (painted_box means item) (bounds_of (item_leaves means item))
