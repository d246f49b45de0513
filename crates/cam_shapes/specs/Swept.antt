-- Strokes of a rectangle along a straight line (Gerber Layer Format Specification, "Plotting", and "Deprecated usage":
-- draws with rectangular apertures). A side of d nanometres reaches d half nanometres to both sides of the line's points.
use Rattle.std.specs.Prelude.{◌≡◌, ◌↔◌, ℤ, pos, ◌+ℤ◌, ◌-ℤ◌, ◌*ℤ◌, ◌≤ℤ◌, ◌<ℤ◌, ◌⊎◌, if◌then◌else◌}
use Rattle.std.specs.Int.RustNames.{unsigned_abs}
use Rattle.cam_units.specs.declared.point.Point.{Point}
use Rattle.cam_units.specs.declared.point.Spot.{Spot}
use Rattle.cam_units.specs.Board.{IsOnBoard, IsSize}
use Rattle.cam_units.specs.Boxes.{greatest_of, least_of, IsInBox}
use Rattle.cam_shapes.specs.declared.vector.Vector.{Vector}
use Rattle.cam_shapes.specs.declared.rectangle.Rectangle.{Rectangle}
use Rattle.cam_shapes.specs.declared.swept.Swept.{Swept}
use Rattle.cam_shapes.specs.Box.{IsInRectangle}
use Rattle.cam_shapes.specs.Plane.{cross, place_of, seen_from, way}
use Rattle.std.specs.Ordering.{int_eq}
use Rattle.cam_units.specs.declared.length.Nm.{Nm}
use Rattle.cam_units.specs.declared.turn.Turn.{Turn}
use Rattle.cam_units.specs.Turns.{applied, matrix_of}

-- the limits of a stroke
pub record IsSoundSwept (r : Swept) : Type 0 where
  pub from : IsOnBoard r.from
  pub to : IsOnBoard r.to
  pub width : IsSize r.width.0
  pub height : IsSize r.height.0

-- the corners of the box of both ends, widened by the sides
abbrev pub low_corner : Swept → Spot
low_corner r =
    let least = least_of (place_of r.from) (place_of r.to) in
    record { x = least.x -ℤ r.width.0; y = least.y -ℤ r.height.0 }

abbrev pub high_corner : Swept → Spot
high_corner r =
    let greatest = greatest_of (place_of r.from) (place_of r.to) in
    record { x = greatest.x +ℤ r.width.0; y = greatest.y +ℤ r.height.0 }

-- the greatest cross product of a way and a place in the rectangle about the way's start: that of a corner
abbrev pub corner_reach : Vector → ℤ → ℤ → ℤ
corner_reach a w h = w *ℤ pos (unsigned_abs a.y) +ℤ h *ℤ pos (unsigned_abs a.x)

-- v, seen from the start of a way, is no farther from the way's line than the corners of a rectangle about the start
abbrev pub IsNearWay : Vector → Vector → ℤ → ℤ → Type 0
IsNearWay a v w h = pos (unsigned_abs (cross a v)) ≤ℤ corner_reach a w h

-- the stroke of a rectangle, which moves along the line and does not turn with it
pub record IsInSwept (s : Spot) (r : Swept) : Type 0 where
  pub wide : pos 0 <ℤ r.width.0
  pub high : pos 0 <ℤ r.height.0
  pub boxed : IsInBox (low_corner r) (high_corner r) s
  pub near : IsNearWay (way r.from r.to) (seen_from r.from s) r.width.0 r.height.0

-- the rectangle about a point of the line
abbrev pub rectangle_at : Point → Swept → Rectangle
rectangle_at p r = record { centre = p; width = r.width; height = r.height }

-- the rectangle at either end lies in the stroke, and a stroke of length 0 is the rectangle
pub record SweptEndsLaw : Type 0 where
  pub start : (s : Spot) (r : Swept) → IsInRectangle s (rectangle_at r.from r) → IsInSwept s r
  pub finish : (s : Spot) (r : Swept) → IsInRectangle s (rectangle_at r.to r) → IsInSwept s r
  pub point : (s : Spot) (r : Swept) → r.from ≡ r.to → IsInSwept s r ↔ IsInRectangle s (rectangle_at r.from r)

-- the line leads along an axis, or nowhere
abbrev pub IsAlongAxis : Swept → Type 0
IsAlongAxis r = (r.from.x ≡ r.to.x) ⊎ (r.from.y ≡ r.to.y)

-- along an axis a stroke is the box of its ends, widened by the sides
abbrev pub SweptAxisLaw : Type 0
SweptAxisLaw =
    (s : Spot) (r : Swept) → pos 0 <ℤ r.width.0 → pos 0 <ℤ r.height.0 → IsAlongAxis r
    → IsInSwept s r ↔ IsInBox (low_corner r) (high_corner r) s

-- a stroke lies in each box that holds the rectangles at both its ends
abbrev pub SweptBoxLaw : Type 0
SweptBoxLaw =
    (low high : Spot) (r : Swept)
    → ((q : Spot) → IsInRectangle q (rectangle_at r.from r) → IsInBox low high q)
    → ((q : Spot) → IsInRectangle q (rectangle_at r.to r) → IsInBox low high q)
    → (s : Spot) → IsInSwept s r → IsInBox low high s

-- the place lies in the rectangle, once that has gone n / m of the way a; it is seen m times as far from the start, at v
pub record IsPassed (a v : Vector) (w h n m : ℤ) : Type 0 where
  pub some : pos 0 <ℤ m
  pub from : pos 0 ≤ℤ n
  pub to : n ≤ℤ m
  pub across : pos (unsigned_abs (m *ℤ v.x -ℤ n *ℤ a.x)) ≤ℤ (m *ℤ w)
  pub along : pos (unsigned_abs (m *ℤ v.y -ℤ n *ℤ a.y)) ≤ℤ (m *ℤ h)

-- a stroke is all that the rectangle passes on its way
abbrev pub SweptWayLaw : Type 0
SweptWayLaw =
    (s : Spot) (r : Swept) → pos 0 <ℤ r.width.0 → pos 0 <ℤ r.height.0
    → IsInSwept s r
    ↔ ((n : ℤ) × ((m : ℤ) × IsPassed (way r.from r.to) (seen_from r.from s) r.width.0 r.height.0 n m))

-- a place, mirrored and turned about (0, 0)
abbrev pub turned_place : Turn → Spot → Spot
turned_place t s =
    let m = matrix_of t in record { x = m.xx *ℤ s.x +ℤ m.xy *ℤ s.y; y = m.yx *ℤ s.x +ℤ m.yy *ℤ s.y }

-- what a side along an axis is then: a quarter turn exchanges the axes
abbrev pub turned_side : Turn → Nm → Nm → Nm
turned_side t side other = if int_eq (matrix_of t).xx (pos 0) then other else side

abbrev pub turned_swept : Turn → Swept → Swept
turned_swept t r = record {
  from = applied (matrix_of t) r.from;
  to = applied (matrix_of t) r.to;
  width = turned_side t r.width r.height;
  height = turned_side t r.height r.width;
}

-- each turn of a stroke turns what it covers
abbrev pub SweptTurnLaw : Type 0
SweptTurnLaw = (t : Turn) (s : Spot) (r : Swept) → IsInSwept s r ↔ IsInSwept (turned_place t s) (turned_swept t r)
