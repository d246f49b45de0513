-- Laws of what apertures cover.
use Rattle.std.specs.Prelude.{◌≡◌, ◌↔◌, ◌+ℤ◌, ◌*ℤ◌, All, ⊤}
use Rattle.cam_units.specs.declared.point.Spot.{Spot}
use Rattle.cam_units.specs.declared.turn.Turn.{Turn}
use Rattle.cam_units.specs.declared.turn.Turn.TheVariants.{R0}
use Rattle.cam_units.specs.Boxes.{Holds}
use Rattle.cam_units.specs.Turns.{Matrix, matrix_of, product}
use Rattle.cam_shapes.specs.Disc.{IsInHole}
use Rattle.cam_macros.specs.declared.primitive.PrimShape.{PrimShape}
use Rattle.cam_macros.specs.declared.primitive.PrimShape.TheVariants.{Disc, Bar, Rect as Rectangular, Outline}
use Rattle.cam_apertures.specs.declared.aperture.Aperture.{Aperture}
use Rattle.cam_apertures.specs.declared.aperture.Aperture.TheVariants.{Circle, Rect, Obround, Prims}
use Rattle.cam_apertures.specs.Bounds.{bounds_of}
use Rattle.cam_apertures.specs.Cover.{disc, IsCovered}

-- each place that an aperture covers under a turn lies in its box under that turn
abbrev pub BoxLaw : Type 0
BoxLaw = (a : Aperture) (t : Turn) (s : Spot) → IsCovered a t s → Holds (bounds_of t a) s

-- the place lies in the hole
abbrev pub IsInHoleOf : Aperture → Spot → Type 0
IsInHoleOf (Circle diameter hole) s = IsInHole s (disc hole)
IsInHoleOf (Rect width height hole) s = IsInHole s (disc hole)
IsInHoleOf (Obround width height hole) s = IsInHole s (disc hole)
IsInHoleOf (Prims prims) s = ⊥

-- a place in the hole is not covered, so that what lies below shows
abbrev pub HoleLaw : Type 0
HoleLaw = (a : Aperture) (t : Turn) (s : Spot) → IsInHoleOf a s → ¬ IsCovered a t s

-- no outline is among the primitives. On an outline's edges ties are decided after it is turned, so
-- that a turn of the outline does not turn the places on its edges that it covers
abbrev pub IsNoOutline : PrimShape → Type 0
IsNoOutline (Disc centre diameter) = ⊤
IsNoOutline (Bar from to width) = ⊤
IsNoOutline (Rectangular centre width height) = ⊤
IsNoOutline (Outline points) = ⊥

abbrev pub HasNoOutline : Aperture → Type 0
HasNoOutline (Circle diameter hole) = ⊤
HasNoOutline (Rect width height hole) = ⊤
HasNoOutline (Obround width height hole) = ⊤
HasNoOutline (Prims prims) = All (λ p. IsNoOutline p.shape) prims

abbrev pub turned_spot : Matrix → Spot → Spot
turned_spot m s = record { x = m.xx *ℤ s.x +ℤ m.xy *ℤ s.y; y = m.yx *ℤ s.x +ℤ m.yy *ℤ s.y }

-- where turning back and then turning is no turn, a place is covered under the turn exactly where the
-- place, turned back, is covered without
abbrev pub TurnLaw : Type 0
TurnLaw =
    (a : Aperture) (t back : Turn) (s : Spot) → HasNoOutline a → product (matrix_of t) (matrix_of back) ≡ matrix_of R0
    → IsCovered a t s ↔ IsCovered a R0 (turned_spot (matrix_of back) s)
