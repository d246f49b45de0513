-- Contours that are moved by so many nm.
use Rattle.std.specs.Prelude.{◌^◌, ◌<◌, ◌+ℤ◌, map, All}
use Rattle.std.specs.Int.RustNames.{unsigned_abs}
use Rattle.cam_units.specs.declared.point.Point.{Point}
use Rattle.cam_shapes.specs.declared.segments.Seg.{Seg}
use Rattle.cam_shapes.specs.declared.segments.Seg.TheVariants.{Line, Curve}
use Rattle.cam_shapes.specs.declared.contour.Contour.{Contour}

-- a point whose coordinates have sums with those of another such point
pub record IsShiftable (p : Point) : Type 0 where
  pub x : unsigned_abs p.x < 2 ^ 62
  pub y : unsigned_abs p.y < 2 ^ 62

abbrev pub shifted_point : Point → Point → Point
shifted_point by p = record { x = p.x +ℤ by.x; y = p.y +ℤ by.y }

abbrev pub shifted_seg : Point → Seg → Seg
shifted_seg by (Line to) = Line (shifted_point by to)
shifted_seg by (Curve to centre ccw) = Curve (shifted_point by to) (shifted_point by centre) ccw

abbrev pub shifted_contour : Point → Contour → Contour
shifted_contour by c = record { start = shifted_point by c.start; segs = map (shifted_seg by) c.segs }

abbrev pub IsShiftableSeg : Seg → Type 0
IsShiftableSeg (Line to) = IsShiftable to
IsShiftableSeg (Curve to centre ccw) = IsShiftable to × IsShiftable centre

pub record IsShiftableContour (c : Contour) : Type 0 where
  pub start : IsShiftable c.start
  pub segs : All IsShiftableSeg c.segs
