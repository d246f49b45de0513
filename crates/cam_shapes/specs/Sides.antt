-- A contour by one test after the other: each crossing and each cap changes the place's side.
use Rattle.std.specs.Prelude.{Bool, true, false, if◌then◌else◌, List, [], ◌∷◌}
use Rattle.cam_units.specs.declared.point.Point.{Point}
use Rattle.cam_units.specs.declared.point.Spot.{Spot}
use Rattle.cam_shapes.specs.declared.segments.Seg.{Seg}
use Rattle.cam_shapes.specs.declared.segments.Seg.TheVariants.{Line, Curve}
use Rattle.cam_shapes.specs.Edge.{edge, crosses_ray}
use Rattle.cam_shapes.specs.Cap.{is_in_cap}
use Rattle.cam_shapes.specs.Contour.{end_of}

-- one of the two, but not both
abbrev pub differ : Bool → Bool → Bool
differ true b = if b then false else true
differ false b = b

-- the segment from a point changes the side
abbrev pub changes_side : Spot → Point → Seg → Bool
changes_side s here (Line to) = crosses_ray s (edge here to)
changes_side s here (Curve to centre ccw) =
    differ (crosses_ray s (edge here to)) (is_in_cap s (record { from = here; to = to; centre = centre; ccw = ccw }))

-- the segments from a point, and the line that closes them, change the side
abbrev pub change_side : Spot → Point → Point → List Seg → Bool
change_side s start here [] = crosses_ray s (edge here start)
change_side s start here (seg ∷ segs) = differ (changes_side s here seg) (change_side s start (end_of seg) segs)
