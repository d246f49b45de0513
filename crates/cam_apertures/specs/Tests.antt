-- Whether an aperture covers a place, as a test that computes, for those who define a picture by it.
-- It says what `IsCovered` says (`TestLaw`).
use Rattle.std.specs.Prelude.{◌↔◌, Bool, false, IsTrue, ◌&&◌, not, if◌then◌else◌, List, [], ◌∷◌, map}
use Rattle.cam_units.specs.declared.point.Spot.{Spot}
use Rattle.cam_units.specs.declared.turn.Turn.{Turn}
use Rattle.cam_shapes.specs.Outline.{outline_of}
use Rattle.cam_shapes.specs.Tests.{is_in_bar, is_in_contour, is_in_disc, is_in_hole, is_in_obround, is_in_rectangle}
use Rattle.cam_macros.specs.declared.primitive.MacroPrimitive.{MacroPrimitive}
use Rattle.cam_macros.specs.declared.primitive.PrimShape.{PrimShape}
use Rattle.cam_macros.specs.declared.primitive.PrimShape.TheVariants.{Disc, Bar, Rect as Rectangular, Outline}
use Rattle.cam_apertures.specs.declared.aperture.Aperture.{Aperture}
use Rattle.cam_apertures.specs.declared.aperture.Aperture.TheVariants.{Circle, Rect, Obround, Prims}
use Rattle.cam_apertures.specs.Cover.{disc, obround, rectangle, IsCovered}
use Rattle.cam_apertures.specs.Turned.{turned_prim}

-- the place lies in the shape of a primitive, as it stands
unfoldable pub is_in_shape : PrimShape → Spot → Bool
is_in_shape (Disc centre diameter) s = is_in_disc s (record { centre = centre; diameter = diameter })
is_in_shape (Bar from to width) s = is_in_bar s (record { from = from; to = to; width = width })
is_in_shape (Rectangular centre width height) s =
    is_in_rectangle s (record { centre = centre; width = width; height = height })
is_in_shape (Outline points) s = is_in_contour s (outline_of points)

-- the ink of a place after primitives gave it their exposure, in order, where they hold it
abbrev pub ink_exposed : Bool → List MacroPrimitive → Spot → Bool
ink_exposed ink [] s = ink
ink_exposed ink (p ∷ ps) s = ink_exposed (if is_in_shape p.shape s then p.paint else ink) ps s

-- the closed shape without the open hole; of a macro, what its turned primitives paint in order
unfoldable pub is_covered : Aperture → Turn → Spot → Bool
is_covered (Circle diameter hole) t s = is_in_disc s (disc diameter) && not (is_in_hole s (disc hole))
is_covered (Rect width height hole) t s = is_in_rectangle s (rectangle t width height) && not (is_in_hole s (disc hole))
is_covered (Obround width height hole) t s = is_in_obround s (obround t width height) && not (is_in_hole s (disc hole))
is_covered (Prims prims) t s = ink_exposed false (map (turned_prim t) prims) s

-- the test holds exactly of the places that are covered
abbrev pub TestLaw : Type 0
TestLaw = (a : Aperture) (t : Turn) (s : Spot) → IsTrue (is_covered a t s) ↔ IsCovered a t s
