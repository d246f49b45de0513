-- Contours (Gerber Layer Format Specification, "Region statement": contours).
use Rattle.std.specs.Prelude.{◌≡◌, ◌+◌, ◌%◌, ◌⊎◌, IsTrue, List, [], ◌∷◌, All, Any, count_by}
use Rattle.cam_units.specs.Board.{IsOnBoard}
use Rattle.cam_units.specs.Boxes.{IsInBox}
use Rattle.cam_units.specs.declared.point.Point.{Point}
use Rattle.cam_units.specs.declared.point.Spot.{Spot}
use Rattle.cam_shapes.specs.declared.segments.Seg.{Seg}
use Rattle.cam_shapes.specs.declared.segments.Seg.TheVariants.{Line, Curve}
use Rattle.cam_shapes.specs.declared.cap.Cap.{Cap}
use Rattle.cam_shapes.specs.declared.contour.Contour.{Contour}
use Rattle.cam_shapes.specs.Plane.{place_of}
use Rattle.cam_shapes.specs.Edge.{Edge, edge, crosses_ray}
use Rattle.cam_shapes.specs.Cap.{is_in_cap}

-- the point where a segment ends
abbrev pub end_of : Seg → Point
end_of (Line to) = to
end_of (Curve to centre ccw) = to

-- the points of a segment lie on the board
abbrev pub IsSoundSeg : Seg → Type 0
IsSoundSeg (Line to) = IsOnBoard to
IsSoundSeg (Curve to centre ccw) = IsOnBoard to × IsOnBoard centre

-- the chords from a point through the segments' ends, and the line that closes them
abbrev pub edges_from : Point → Point → List Seg → List Edge
edges_from start here [] = edge here start ∷ []
edges_from start here (seg ∷ segs) = edge here (end_of seg) ∷ edges_from start (end_of seg) segs

-- the caps of the arcs among the segments
abbrev pub caps_from : Point → List Seg → List Cap
caps_from here [] = []
caps_from here (Line to ∷ segs) = caps_from to segs
caps_from here (Curve to centre ccw ∷ segs) =
    record { from = here; to = to; centre = centre; ccw = ccw } ∷ caps_from to segs

abbrev pub edges_of : Contour → List Edge
edges_of c = edges_from c.start c.start c.segs

abbrev pub caps_of : Contour → List Cap
caps_of c = caps_from c.start c.segs

-- the edges that cross the ray going right from the place, and the caps that hold the place, are
-- odd in number, all together
abbrev pub IsInContour : Spot → Contour → Type 0
IsInContour s c = (count_by (crosses_ray s) (edges_of c) + count_by (is_in_cap s) (caps_of c)) % 2 ≡ 1

-- each point where a segment starts or ends lies in the box
pub record HasPointsIn (low high : Spot) (c : Contour) : Type 0 where
  pub start : IsInBox low high (place_of c.start)
  pub ends : All (λ seg. IsInBox low high (place_of (end_of seg))) c.segs

-- a place in a contour lies in each box of the contour's points, or in a cap
abbrev pub ContourBoxLaw : Type 0
ContourBoxLaw =
    (s : Spot) (c : Contour) (low high : Spot)
    → HasPointsIn low high c
    → IsInContour s c
    → IsInBox low high s ⊎ Any (λ cap. IsTrue (is_in_cap s cap)) (caps_of c)
