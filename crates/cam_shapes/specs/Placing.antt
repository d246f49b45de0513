-- Contours that are turned about (0, 0) and then moved.
use Rattle.std.specs.Prelude.{◌<◌, ℤ, pos, ◌+ℤ◌, ◌-ℤ◌, ◌*ℤ◌, Bool, true, false, if◌then◌else◌, map, All}
use Rattle.std.specs.Int.RustNames.{int_lt, unsigned_abs}
use Rattle.cam_units.specs.declared.point.Point.{Point}
use Rattle.cam_units.specs.declared.turn.Turn.{Turn}
use Rattle.cam_units.specs.Board.{IsOnBoard}
use Rattle.cam_units.specs.Turns.{Matrix, applied, matrix_of}
use Rattle.cam_shapes.specs.declared.segments.Seg.{Seg}
use Rattle.cam_shapes.specs.declared.segments.Seg.TheVariants.{Line, Curve}
use Rattle.cam_shapes.specs.declared.contour.Contour.{Contour}

-- a point, turned and then moved
abbrev pub placed_point : Turn → Point → Point → Point
placed_point t o p =
    let q = applied (matrix_of t) p in
    record { x = q.x +ℤ o.x; y = q.y +ℤ o.y }

abbrev pub determinant : Matrix → ℤ
determinant m = m.xx *ℤ m.yy -ℤ m.xy *ℤ m.yx

-- a mirror changes counterclockwise for clockwise
abbrev pub placed_direction : Turn → Bool → Bool
placed_direction t ccw = if int_lt (determinant (matrix_of t)) (pos 0) then (if ccw then false else true) else ccw

abbrev pub placed_seg : Turn → Point → Seg → Seg
placed_seg t o (Line to) = Line (placed_point t o to)
placed_seg t o (Curve to centre ccw) = Curve (placed_point t o to) (placed_point t o centre) (placed_direction t ccw)

abbrev pub placed_contour : Turn → Point → Contour → Contour
placed_contour t o c = record { start = placed_point t o c.start; segs = map (placed_seg t o) c.segs }

-- a point of the board that is placed on the board
pub record IsPlaceablePoint (t : Turn) (o p : Point) : Type 0 where
  pub here : IsOnBoard p
  pub there : IsOnBoard (placed_point t o p)

abbrev pub IsPlaceableSeg : Turn → Point → Seg → Type 0
IsPlaceableSeg t o (Line to) = IsPlaceablePoint t o to
IsPlaceableSeg t o (Curve to centre ccw) = IsPlaceablePoint t o to × IsPlaceablePoint t o centre

-- an offset across the board: each coordinate is under two metres in absolute value
pub record IsOffset (o : Point) : Type 0 where
  pub x : unsigned_abs o.x < 2000000000
  pub y : unsigned_abs o.y < 2000000000

-- a contour whose points lie on the board, and are placed on the board
pub record IsPlaceable (t : Turn) (o : Point) (c : Contour) : Type 0 where
  pub start : IsPlaceablePoint t o c.start
  pub segs : All (IsPlaceableSeg t o) c.segs
