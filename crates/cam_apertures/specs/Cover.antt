-- The places that an aperture covers, in half nanometres from its flash point (Gerber Layer Format
-- Specification, "Standard apertures" and "Aperture macro (AM)").
use Rattle.std.specs.Prelude.{◌≡◌, pos, true, List, ◌∷◌, ◌++◌, map, All}
use Rattle.cam_units.specs.declared.length.Nm.{Nm}
use Rattle.cam_units.specs.declared.point.Point.{Point}
use Rattle.cam_units.specs.declared.point.Spot.{Spot}
use Rattle.cam_units.specs.declared.turn.Turn.{Turn}
use Rattle.cam_shapes.specs.Bar.{IsInBar}
use Rattle.cam_shapes.specs.Box.{IsInObround, IsInRectangle}
use Rattle.cam_shapes.specs.Contour.{IsInContour}
use Rattle.cam_shapes.specs.Disc.{IsInDisc, IsInHole}
use Rattle.cam_shapes.specs.Outline.{outline_of}
use Rattle.cam_shapes.specs.declared.disc.Disc.{Disc as ADisc}
use Rattle.cam_shapes.specs.declared.obround.Obround.{Obround as AnObround}
use Rattle.cam_shapes.specs.declared.rectangle.Rectangle.{Rectangle}
use Rattle.cam_macros.specs.declared.primitive.MacroPrimitive.{MacroPrimitive}
use Rattle.cam_macros.specs.declared.primitive.PrimShape.{PrimShape}
use Rattle.cam_macros.specs.declared.primitive.PrimShape.TheVariants.{Disc, Bar, Rect as Rectangular, Outline}
use Rattle.cam_apertures.specs.declared.aperture.Aperture.{Aperture}
use Rattle.cam_apertures.specs.declared.aperture.Aperture.TheVariants.{Circle, Rect, Obround, Prims}
use Rattle.cam_apertures.specs.Turned.{turned_height, turned_prim, turned_width}

-- the flash point
abbrev pub flash_point : Point
flash_point = record { x = pos 0; y = pos 0 }

-- shapes about the flash point; a mirror or a half turn does not change them, and a quarter turn
-- exchanges their sides
abbrev pub disc : Nm → ADisc
disc diameter = record { centre = flash_point; diameter = diameter }

abbrev pub rectangle : Turn → Nm → Nm → Rectangle
rectangle t width height =
    record { centre = flash_point; width = turned_width t width height; height = turned_height t width height }

abbrev pub obround : Turn → Nm → Nm → AnObround
obround t width height =
    record { centre = flash_point; width = turned_width t width height; height = turned_height t width height }

-- the place lies in the shape of a primitive, as it stands
abbrev pub IsInShape : PrimShape → Spot → Type 0
IsInShape (Disc centre diameter) s = IsInDisc s (record { centre = centre; diameter = diameter })
IsInShape (Bar from to width) s = IsInBar s (record { from = from; to = to; width = width })
IsInShape (Rectangular centre width height) s =
    IsInRectangle s (record { centre = centre; width = width; height = height })
IsInShape (Outline points) s = IsInContour s (outline_of points)

-- the last of the primitives that holds the place has exposure 1
pub record IsExposed (prims : List MacroPrimitive) (s : Spot) : Type 0 where
  pub before : List MacroPrimitive
  pub prim : MacroPrimitive
  pub after : List MacroPrimitive
  pub split : prims ≡ before ++ prim ∷ after
  pub held : IsInShape prim.shape s
  pub exposed : prim.paint ≡ true
  pub last : All (λ later. ¬ IsInShape later.shape s) after

-- the closed shape without the open hole; of a macro, what its turned primitives paint in order
abbrev pub IsCovered : Aperture → Turn → Spot → Type 0
IsCovered (Circle diameter hole) t s = IsInDisc s (disc diameter) × ¬ IsInHole s (disc hole)
IsCovered (Rect width height hole) t s = IsInRectangle s (rectangle t width height) × ¬ IsInHole s (disc hole)
IsCovered (Obround width height hole) t s = IsInObround s (obround t width height) × ¬ IsInHole s (disc hole)
IsCovered (Prims prims) t s = IsExposed (map (turned_prim t) prims) s
