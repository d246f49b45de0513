-- The limits of apertures.
use Rattle.std.specs.Prelude.{◌≡◌, pos, ℤ, ◌≤ℤ◌, All}
use Rattle.cam_refusals.specs.Limits.{size_limit}
use Rattle.cam_units.specs.Board.{IsSize}
use Rattle.cam_apertures.specs.declared.aperture.Aperture.{Aperture}
use Rattle.cam_apertures.specs.declared.aperture.Aperture.TheVariants.{Circle, Rect, Obround, Prims}
use Rattle.cam_apertures.specs.Primitives.{IsSoundPrim}

-- a side of a rectangle or an obround, from 1 nm to 200 mm
abbrev pub IsSideLength : ℤ → Type 0
IsSideLength n = (pos 1 ≤ℤ n) × (n ≤ℤ pos size_limit)

-- diameters and holes, from 0 to 200 mm, and sides
abbrev pub IsSoundAperture : Aperture → Type 0
IsSoundAperture (Circle diameter hole) = IsSize diameter.0 × IsSize hole.0
IsSoundAperture (Rect width height hole) = IsSideLength width.0 × IsSideLength height.0 × IsSize hole.0
IsSoundAperture (Obround width height hole) = IsSideLength width.0 × IsSideLength height.0 × IsSize hole.0
IsSoundAperture (Prims prims) = All IsSoundPrim prims

-- a circle without a hole, with which lines are drawn (Gerber Layer Format Specification, "Plotting")
abbrev pub IsSolidCircle : Aperture → Type 0
IsSolidCircle (Circle diameter hole) = hole.0 ≡ pos 0
IsSolidCircle (Rect width height hole) = ⊥
IsSolidCircle (Obround width height hole) = ⊥
IsSolidCircle (Prims prims) = ⊥

-- a rectangle without a hole, with which straight lines may be drawn (Gerber Layer Format Specification, "Deprecated
-- usage": draws with rectangular apertures)
abbrev pub IsSolidRect : Aperture → Type 0
IsSolidRect (Circle diameter hole) = ⊥
IsSolidRect (Rect width height hole) = hole.0 ≡ pos 0
IsSolidRect (Obround width height hole) = ⊥
IsSolidRect (Prims prims) = ⊥
