-- Boxes by their spans, and the box that is kept beside primitives.
use Rattle.std.specs.Prelude.{◌≡◌, ◌≤◌, neg_ℤ, List, All, ⊤}
use Rattle.std.specs.Int.RustNames.{unsigned_abs}
use Rattle.cam_units.specs.declared.bounds.Bounds.{Bounds}
use Rattle.cam_units.specs.declared.bounds.Bounds.TheVariants.{Empty, Closed}
use Rattle.cam_units.specs.declared.point.Spot.{Spot}
use Rattle.cam_macros.specs.declared.primitive.MacroPrimitive.{MacroPrimitive}
use Rattle.cam_apertures.specs.declared.boxes.Span.{Span}
use Rattle.cam_apertures.specs.Primitives.{IsSoundPrim, box_of_prims}

-- the box of two spans
abbrev pub spanned : Span → Span → Bounds
spanned x y = Closed (record { x = x.low; y = y.low }) (record { x = x.high; y = y.high })

abbrev pub reversed : Span → Span
reversed s = record { low = neg_ℤ s.high; high = neg_ℤ s.low }

-- a place that no box of sound primitives passes
pub record IsSmallSpot (s : Spot) : Type 0 where
  pub x : unsigned_abs s.x ≤ 600000000
  pub y : unsigned_abs s.y ≤ 600000000

abbrev pub IsSmallBox : Bounds → Type 0
IsSmallBox Empty = ⊤
IsSmallBox (Closed low high) = IsSmallSpot low × IsSmallSpot high

-- sound primitives and the box of all of them
pub record IsBoxed (prims : List MacroPrimitive) (bounds : Bounds) : Type 0 where
  pub sound : All IsSoundPrim prims
  pub box : bounds ≡ box_of_prims prims
  pub small : IsSmallBox bounds
