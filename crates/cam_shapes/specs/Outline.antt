-- Outlines of aperture macros (Gerber Layer Format Specification, "Aperture macro (AM)": outline).
use Rattle.std.specs.Prelude.{pos, List, [], ◌∷◌, map}
use Rattle.cam_units.specs.declared.point.Point.{Point}
use Rattle.cam_shapes.specs.declared.segments.Seg.{Seg}
use Rattle.cam_shapes.specs.declared.segments.Seg.TheVariants.{Line}
use Rattle.cam_shapes.specs.declared.contour.Contour.{Contour}

-- straight lines to points
abbrev pub lines_to : List Point → List Seg
lines_to points = map (λ p. Line p) points

-- the closed contour through the points; through none, a contour without segments
abbrev pub outline_of : List Point → Contour
outline_of [] = record { start = record { x = pos 0; y = pos 0 }; segs = [] }
outline_of (p ∷ ps) = record { start = p; segs = lines_to ps }
