-- The box of a contour, segment by segment.
use Rattle.cam_units.specs.Boxes.{join_of}
use Rattle.cam_units.specs.declared.bounds.Bounds.TheVariants.{Empty}
use Rattle.cam_shapes.specs.declared.contour.Contour.{Contour}
use Rattle.cam_shapes.specs.declared.segments.Seg.{Seg}
use Rattle.cam_shapes.specs.declared.segments.Seg.TheVariants.{Line, Curve}
use Rattle.cam_apertures.specs.Primitives.{box_of_point}
use Rattle.cam_objects.specs.declared.boxes.shapes.Trace.{Trace}
use Rattle.cam_objects.specs.Bounds.{circle_square}

-- behind one segment more
abbrev pub followed : Trace → Seg → Trace
followed t (Line to) = record { here = to; points = join_of t.points (box_of_point to); arcs = t.arcs }
followed t (Curve to centre ccw) =
    let circle = circle_square centre t.here in
    record { here = to; points = join_of t.points (box_of_point to); arcs = join_of t.arcs circle }

-- before the first
abbrev pub started : Contour → Trace
started c = record { here = c.start; points = box_of_point c.start; arcs = Empty }
