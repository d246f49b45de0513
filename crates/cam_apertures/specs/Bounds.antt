-- The boxes of apertures, in half nanometres from the flash point.
use Rattle.std.specs.Prelude.{map}
use Rattle.cam_units.specs.declared.bounds.Bounds.{Bounds}
use Rattle.cam_units.specs.declared.turn.Turn.{Turn}
use Rattle.cam_apertures.specs.declared.aperture.Aperture.{Aperture}
use Rattle.cam_apertures.specs.declared.aperture.Aperture.TheVariants.{Circle, Rect, Obround, Prims}
use Rattle.cam_shapes.specs.Plane.{place_of}
use Rattle.cam_apertures.specs.Cover.{flash_point}
use Rattle.cam_apertures.specs.Primitives.{box_about, box_of_prims}
use Rattle.cam_apertures.specs.Turned.{turned_height, turned_prim, turned_width}

-- the full sides, hole or not; of primitives the box of all that are turned so
abbrev pub bounds_of : Turn → Aperture → Bounds
bounds_of t (Circle diameter hole) = box_about (place_of flash_point) diameter.0 diameter.0
bounds_of t (Rect width height hole) =
    box_about (place_of flash_point) (turned_width t width height).0 (turned_height t width height).0
bounds_of t (Obround width height hole) =
    box_about (place_of flash_point) (turned_width t width height).0 (turned_height t width height).0
bounds_of t (Prims prims) = box_of_prims (map (turned_prim t) prims)
