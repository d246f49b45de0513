-- Shapes and boxes that are mirrored and turned about (0, 0) (Gerber Layer Format Specification, "Aperture
-- Transformations (LP, LM, LR, LS)").
use Rattle.std.specs.Prelude.{◌^◌, ◌<◌, ℤ, neg_ℤ, Bool, true, false, if◌then◌else◌, map, ⊤}
use Rattle.std.specs.Int.RustNames.{unsigned_abs}
use Rattle.cam_units.specs.declared.bounds.Bounds.{Bounds}
use Rattle.cam_units.specs.declared.bounds.Bounds.TheVariants.{Empty, Closed}
use Rattle.cam_units.specs.declared.length.Nm.{Nm}
use Rattle.cam_units.specs.declared.point.Point.{Point}
use Rattle.cam_units.specs.declared.point.Spot.{Spot}
use Rattle.cam_units.specs.declared.turn.Turn.{Turn}
use Rattle.cam_units.specs.declared.turn.Turn.TheVariants.{R0, R90, R180, R270, M0, M90, M180, M270}
use Rattle.cam_units.specs.Turns.{applied, matrix_of}
use Rattle.cam_macros.specs.declared.primitive.MacroPrimitive.{MacroPrimitive}
use Rattle.cam_macros.specs.declared.primitive.PrimShape.{PrimShape}
use Rattle.cam_macros.specs.declared.primitive.PrimShape.TheVariants.{Disc, Bar, Rect, Outline}

-- a quarter turn exchanges the axes
abbrev pub exchanges_axes : Turn → Bool
exchanges_axes R0 = false
exchanges_axes R90 = true
exchanges_axes R180 = false
exchanges_axes R270 = true
exchanges_axes M0 = false
exchanges_axes M90 = true
exchanges_axes M180 = false
exchanges_axes M270 = true

-- how wide and how high a shape of this width and height is, once it is turned
abbrev pub turned_width : Turn → Nm → Nm → Nm
turned_width t width height = if exchanges_axes t then height else width

abbrev pub turned_height : Turn → Nm → Nm → Nm
turned_height t width height = if exchanges_axes t then width else height

abbrev pub turned_point : Turn → Point → Point
turned_point t p = applied (matrix_of t) p

abbrev pub turned_shape : Turn → PrimShape → PrimShape
turned_shape t (Disc centre diameter) = Disc (turned_point t centre) diameter
turned_shape t (Bar from to width) = Bar (turned_point t from) (turned_point t to) width
turned_shape t (Rect centre width height) =
    Rect (turned_point t centre) (turned_width t width height) (turned_height t width height)
turned_shape t (Outline points) = Outline (map (turned_point t) points)

abbrev pub turned_prim : Turn → MacroPrimitive → MacroPrimitive
turned_prim t p = record { paint = p.paint; shape = turned_shape t p.shape }

-- the box from a left and a lower to a right and an upper edge
abbrev pub edged : ℤ → ℤ → ℤ → ℤ → Bounds
edged left below right above = Closed (record { x = left; y = below }) (record { x = right; y = above })

-- a box: what its right edge was may be its left edge then
abbrev pub turned_corners : Turn → Spot → Spot → Bounds
turned_corners R0 low high = edged low.x low.y high.x high.y
turned_corners R90 low high = edged (neg_ℤ high.y) low.x (neg_ℤ low.y) high.x
turned_corners R180 low high = edged (neg_ℤ high.x) (neg_ℤ high.y) (neg_ℤ low.x) (neg_ℤ low.y)
turned_corners R270 low high = edged low.y (neg_ℤ high.x) high.y (neg_ℤ low.x)
turned_corners M0 low high = edged (neg_ℤ high.x) low.y (neg_ℤ low.x) high.y
turned_corners M90 low high = edged (neg_ℤ high.y) (neg_ℤ high.x) (neg_ℤ low.y) (neg_ℤ low.x)
turned_corners M180 low high = edged low.x (neg_ℤ high.y) high.x (neg_ℤ low.y)
turned_corners M270 low high = edged low.y low.x high.y high.x

abbrev pub turned_box : Turn → Bounds → Bounds
turned_box t Empty = Empty
turned_box t (Closed low high) = turned_corners t low high

-- the negative of each coordinate is a coordinate
pub record IsTurnableSpot (s : Spot) : Type 0 where
  pub x : unsigned_abs s.x < 2 ^ 63
  pub y : unsigned_abs s.y < 2 ^ 63

abbrev pub IsTurnableBox : Bounds → Type 0
IsTurnableBox Empty = ⊤
IsTurnableBox (Closed low high) = IsTurnableSpot low × IsTurnableSpot high
