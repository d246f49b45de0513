-- Primitives of macros: their limits and their boxes. A point of x nanometres lies at 2 * x half
-- nanometres, and a side of d nanometres reaches d half nanometres to both sides.
use Rattle.std.specs.Prelude.{◌<◌, ◌≤◌, ℤ, ◌+ℤ◌, ◌-ℤ◌, List, length, All, fold}
use Rattle.std.specs.Int.RustNames.{unsigned_abs}
use Rattle.cam_refusals.specs.Limits.{size_limit}
use Rattle.cam_units.specs.declared.bounds.Bounds.{Bounds}
use Rattle.cam_units.specs.declared.bounds.Bounds.TheVariants.{Empty, Closed}
use Rattle.cam_units.specs.declared.point.Point.{Point}
use Rattle.cam_units.specs.declared.point.Spot.{Spot}
use Rattle.cam_units.specs.Board.{IsSize}
use Rattle.cam_units.specs.Boxes.{join_of}
use Rattle.cam_shapes.specs.Plane.{place_of}
use Rattle.cam_macros.specs.declared.primitive.MacroPrimitive.{MacroPrimitive}
use Rattle.cam_macros.specs.declared.primitive.PrimShape.{PrimShape}
use Rattle.cam_macros.specs.declared.primitive.PrimShape.TheVariants.{Disc, Bar, Rect, Outline}

-- each coordinate of a macro's point is at most 200 mm in absolute value
pub record IsMacroPoint (p : Point) : Type 0 where
  pub x : unsigned_abs p.x ≤ size_limit
  pub y : unsigned_abs p.y ≤ size_limit

-- from 1 to 5,000 points
pub record IsSoundOutline (points : List Point) : Type 0 where
  pub some : 0 < length points
  pub most : length points ≤ 5000
  pub near : All IsMacroPoint points

-- the limits of a primitive: sizes from 0 to 200 mm
abbrev pub IsSoundShape : PrimShape → Type 0
IsSoundShape (Disc centre diameter) = IsMacroPoint centre × IsSize diameter.0
IsSoundShape (Bar from to width) = IsMacroPoint from × IsMacroPoint to × IsSize width.0
IsSoundShape (Rect centre width height) = IsMacroPoint centre × IsSize width.0 × IsSize height.0
IsSoundShape (Outline points) = IsSoundOutline points

abbrev pub IsSoundPrim : MacroPrimitive → Type 0
IsSoundPrim p = IsSoundShape p.shape

-- the box that reaches so far to both sides of a place
abbrev pub box_about : Spot → ℤ → ℤ → Bounds
box_about s across up =
    Closed (record { x = s.x -ℤ across; y = s.y -ℤ up }) (record { x = s.x +ℤ across; y = s.y +ℤ up })

-- the box of one point
abbrev pub box_of_point : Point → Bounds
box_of_point p = Closed (place_of p) (place_of p)

-- the box of a primitive's shape: of a bar the boxes of both ends, widened by its half width, joined
abbrev pub primitive_box : PrimShape → Bounds
primitive_box (Disc centre diameter) = box_about (place_of centre) diameter.0 diameter.0
primitive_box (Bar from to width) =
    join_of (box_about (place_of from) width.0 width.0) (box_about (place_of to) width.0 width.0)
primitive_box (Rect centre width height) = box_about (place_of centre) width.0 height.0
primitive_box (Outline points) = fold (λ box p. join_of box (box_of_point p)) Empty points

-- the boxes of all primitives, painting or not, joined; of none the empty box
abbrev pub box_of_prims : List MacroPrimitive → Bounds
box_of_prims prims = fold (λ box p. join_of box (primitive_box p.shape)) Empty prims
