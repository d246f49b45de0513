-- The boxes of what a layer paints, in half nm: each leaf has one, and what paints many leaves has the least box that
-- holds all of theirs.
use Rattle.std.specs.Prelude.{ℕ, ◌+◌, ◌*◌, nat_le, ℤ, pos, ◌+ℤ◌, ◌-ℤ◌, ◌*ℤ◌, unsigned_abs, List, ◌∷◌, fold, map, count_by}
use Rattle.std.specs.List.{range_with_len}
use Rattle.cam_units.specs.Boxes.{join_of}
use Rattle.cam_units.specs.declared.bounds.Bounds.{Bounds}
use Rattle.cam_units.specs.declared.bounds.Bounds.TheVariants.{Empty, Closed}
use Rattle.cam_units.specs.declared.point.Point.{Point}
use Rattle.cam_shapes.specs.Contour.{caps_of, end_of}
use Rattle.cam_shapes.specs.declared.cap.Cap.{Cap}
use Rattle.cam_shapes.specs.declared.contour.Contour.{Contour}
use Rattle.cam_shapes.specs.Plane.{dot, place_of, way}
use Rattle.cam_apertures.specs.Bounds.{bounds_of as template_bounds}
use Rattle.cam_apertures.specs.Primitives.{box_about, box_of_point}
use Rattle.cam_objects.specs.Leaves.{Leaf, Shape, Stamp, Stroke, Swept, Sweep, Filled, Drilled}

-- the greatest number whose square is at most n: as many as there are numbers from 1 to n of no greater square
unfoldable pub root : ℕ → ℕ
root n = count_by (λ m. nat_le (m * m) n) (range_with_len 1 n)

-- a box that reaches so far beyond another to all sides
abbrev pub widened : ℤ → Bounds → Bounds
widened by Empty = Empty
widened by (Closed low high) =
    Closed (record { x = low.x -ℤ by; y = low.y -ℤ by }) (record { x = high.x +ℤ by; y = high.y +ℤ by })

-- a box that is moved by so many nm
abbrev pub moved : Point → Bounds → Bounds
moved by Empty = Empty
moved by (Closed low high) =
    Closed (record { x = low.x +ℤ pos 2 *ℤ by.x; y = low.y +ℤ pos 2 *ℤ by.y })
    (record { x = high.x +ℤ pos 2 *ℤ by.x; y = high.y +ℤ pos 2 *ℤ by.y })

-- the square about the centre of an arc that holds the circle through its start
abbrev pub circle_square : Point → Point → Bounds
circle_square centre from =
    let v = way centre from in
    let half = pos (root (unsigned_abs (dot v v)) + 1) in box_about (place_of centre) half half

-- the least box that holds the boxes of all
abbrev pub box_of_all : {X : Type 0} → (X → Bounds) → List X → Bounds
box_of_all box xs = fold (λ all x. join_of all (box x)) Empty xs

abbrev pub box_of_cap : Cap → Bounds
box_of_cap cap = circle_square cap.centre cap.from

-- the points of a contour, and the squares of its arcs
abbrev pub box_of_contour : Contour → Bounds
box_of_contour c =
    join_of (box_of_all box_of_point (c.start ∷ map end_of c.segs)) (box_of_all box_of_cap (caps_of c))

-- of a stroke both ends, and of an arc its square besides, widened by the radius of the tool; of a rectangle's stroke
-- the rectangles at both ends
abbrev pub box_of_shape : Shape → Bounds
box_of_shape (Stamp aperture turn at) = moved at (template_bounds turn aperture)
box_of_shape (Stroke capsule) =
    widened capsule.width.0 (join_of (box_of_point capsule.from) (box_of_point capsule.to))
box_of_shape (Swept swept) =
    join_of (box_about (place_of swept.from) swept.width.0 swept.height.0)
    (box_about (place_of swept.to) swept.width.0 swept.height.0)
box_of_shape (Sweep arc) =
    widened arc.width.0
    (join_of (circle_square arc.centre arc.from) (join_of (box_of_point arc.from) (box_of_point arc.to)))
box_of_shape (Filled contour) = box_of_contour contour
box_of_shape (Drilled disc) = box_about (place_of disc.centre) disc.diameter.0 disc.diameter.0

-- what paints leaves has the least box around theirs; where there is none, the empty box
abbrev pub bounds_of : List Leaf → Bounds
bounds_of leaves = box_of_all (λ l. box_of_shape l.shape) leaves
