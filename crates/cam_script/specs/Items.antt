-- The items that a line names: objects of a Gerber layer, hits and routs of a drill layer.
use Rattle.std.specs.Prelude.{ℕ, Bool, true, false, if◌then◌else◌, List, [], ◌∷◌, codes, Option, None, Some}
use Rattle.std.specs.Option.{option_and_then, option_map}
use Rattle.std.specs.Str.{bytes_eq}
use Rattle.cam_units.specs.declared.point.Point.{Point}
use Rattle.cam_units.specs.declared.turn.Turn.{Turn}
use Rattle.cam_units.specs.declared.turn.Turn.TheVariants.{R0, R90, R180, R270, M0, M90, M180, M270}
use Rattle.cam_shapes.specs.declared.segments.Seg.{Seg}
use Rattle.cam_shapes.specs.declared.segments.Seg.TheVariants.{Line, Curve}
use Rattle.cam_objects.specs.declared.drill_item.DrillItem.TheVariants.{Hit, Rout}
use Rattle.cam_objects.specs.declared.item.Item.TheVariants.{One}
use Rattle.cam_objects.specs.declared.object.Object.{Object}
use Rattle.cam_objects.specs.declared.object.Object.TheVariants.{Flash, Draw, Arc, Region}
use Rattle.cam_edits.specs.declared.edit.NewItem.{NewItem}
use Rattle.cam_edits.specs.declared.edit.NewItem.TheVariants as new_items
use Rattle.cam_script.specs.Words.{count_in, length_in, tool_in}

-- what follows from the value that a word writes
abbrev pub reads : {T U : Type 0} → (List ℕ → Option T) → List ℕ → (T → Option U) → Option U
reads value word follows = option_and_then follows (value word)

-- X Y
abbrev pub point_read : List ℕ → List ℕ → Option Point
point_read x y = reads length_in x (λ x. reads length_in y (λ y. Some (record { x = x; y = y })))

abbrev pub reads_point : {U : Type 0} → List ℕ → List ℕ → (Point → Option U) → Option U
reads_point x y follows = option_and_then follows (point_read x y)

-- TURN: a mirror, as m, and quarter turns in degrees
abbrev pub turn_read : List ℕ → Option Turn
turn_read word =
    if bytes_eq word (codes "r0") then Some R0
    else if bytes_eq word (codes "r90") then Some R90
    else if bytes_eq word (codes "r180") then Some R180
    else if bytes_eq word (codes "r270") then Some R270
    else if bytes_eq word (codes "m0") then Some M0
    else if bytes_eq word (codes "m90") then Some M90
    else if bytes_eq word (codes "m180") then Some M180
    else if bytes_eq word (codes "m270") then Some M270
    else None

-- POL: whether an object is dark
abbrev pub polarity_read : List ℕ → Option Bool
polarity_read word =
    if bytes_eq word (codes "dark") then Some true
    else if bytes_eq word (codes "clear") then Some false
    else None

-- DIR: whether an arc goes counterclockwise
abbrev pub direction_in : List ℕ → Option Bool
direction_in word =
    if bytes_eq word (codes "cw") then Some false
    else if bytes_eq word (codes "ccw") then Some true
    else None

-- N X Y TURN POL
abbrev pub flash_in : List (List ℕ) → Option Object
flash_in (n ∷ x ∷ y ∷ turn ∷ polarity ∷ []) =
    reads count_in n (λ n. reads_point x y (λ at. reads turn_read turn (λ turn. reads polarity_read polarity (λ dark.
    Some (Flash n at turn dark)))))
flash_in _ = None

-- N X1 Y1 X2 Y2 TURN POL
abbrev pub draw_in : List (List ℕ) → Option Object
draw_in (n ∷ x1 ∷ y1 ∷ x2 ∷ y2 ∷ turn ∷ polarity ∷ []) =
    reads count_in n (λ n. reads_point x1 y1 (λ from. reads_point x2 y2 (λ to.
    reads turn_read turn (λ turn. reads polarity_read polarity (λ dark. Some (Draw n from to turn dark))))))
draw_in _ = None

-- N X1 Y1 X2 Y2 CX CY DIR POL
abbrev pub arc_in : List (List ℕ) → Option Object
arc_in (n ∷ x1 ∷ y1 ∷ x2 ∷ y2 ∷ cx ∷ cy ∷ direction ∷ polarity ∷ []) =
    reads count_in n (λ n. reads_point x1 y1 (λ from. reads_point x2 y2 (λ to. reads_point cx cy (λ centre.
    reads direction_in direction (λ ccw. reads polarity_read polarity (λ dark. Some (Arc ccw dark n from to centre)))))))
arc_in _ = None

-- what stands first in a list, where both can be read
abbrev pub joined : {T : Type 0} → Option T → Option (List T) → Option (List T)
joined first rest = option_and_then (λ x. option_map (λ xs. x ∷ xs) rest) first

-- l X Y
abbrev pub line_seg : List ℕ → List ℕ → Option Seg
line_seg x y = reads_point x y (λ to. Some (Line to))

-- cw X Y CX CY, or ccw X Y CX CY
abbrev pub curve_seg : List ℕ → List ℕ → List ℕ → List ℕ → List ℕ → Option Seg
curve_seg direction x y cx cy =
    reads direction_in direction (λ ccw. reads_point x y (λ to. reads_point cx cy (λ centre.
    Some (Curve to centre ccw))))

abbrev pub is_line : List ℕ → Bool
is_line word = bytes_eq word (codes "l")

-- segments, one behind the other: straight ones of three words, curves of five
abbrev pub segs_in : List (List ℕ) → Option (List Seg)
segs_in [] = Some []
segs_in (form ∷ []) = None
segs_in (form ∷ x ∷ []) = None
segs_in (form ∷ x ∷ y ∷ []) = if is_line form then joined (line_seg x y) (Some []) else None
segs_in (form ∷ x ∷ y ∷ u ∷ []) = None
segs_in (form ∷ x ∷ y ∷ u ∷ v ∷ more) =
    if is_line form then joined (line_seg x y) (segs_in (u ∷ v ∷ more))
    else joined (curve_seg form x y u v) (segs_in more)

-- a contour has a segment
abbrev pub region_of : Bool → Point → List Seg → Option Object
region_of dark start [] = None
region_of dark start (seg ∷ segs) = Some (Region (record { start = start; segs = seg ∷ segs }) dark)

-- POL X Y and segments
abbrev pub region_read : List (List ℕ) → Option Object
region_read (polarity ∷ x ∷ y ∷ segs) =
    reads polarity_read polarity (λ dark. reads_point x y (λ start.
    option_and_then (λ segs. region_of dark start segs) (segs_in segs)))
region_read _ = None

-- T X Y
abbrev pub hit_in : List (List ℕ) → Option NewItem
hit_in (tool ∷ x ∷ y ∷ []) = reads tool_in tool (λ tool. reads_point x y (λ at. Some (new_items.Drill (Hit tool at))))
hit_in _ = None

-- X Y, again and again
abbrev pub points_in : List (List ℕ) → Option (List Point)
points_in [] = Some []
points_in (x ∷ []) = None
points_in (x ∷ y ∷ more) = joined (point_read x y) (points_in more)

-- a rout has a point
abbrev pub rout_of : ℕ → List Point → Option NewItem
rout_of tool [] = None
rout_of tool (point ∷ points) = Some (new_items.Drill (Rout tool (point ∷ points)))

-- T X Y and further X Y
abbrev pub rout_in : List (List ℕ) → Option NewItem
rout_in (tool ∷ points) =
    reads tool_in tool (λ tool. option_and_then (λ points. rout_of tool points) (points_in points))
rout_in [] = None

abbrev pub as_item : Option Object → Option NewItem
as_item object = option_map (λ object. new_items.Gerber (One object)) object

-- the item that the first word names
abbrev pub item_in : List ℕ → List (List ℕ) → Option NewItem
item_in form words =
    if bytes_eq form (codes "flash") then as_item (flash_in words)
    else if bytes_eq form (codes "draw") then as_item (draw_in words)
    else if bytes_eq form (codes "arc") then as_item (arc_in words)
    else if bytes_eq form (codes "region") then as_item (region_read words)
    else if bytes_eq form (codes "hit") then hit_in words
    else if bytes_eq form (codes "rout") then rout_in words
    else None
