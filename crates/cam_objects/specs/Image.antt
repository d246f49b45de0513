-- The image: painting in order, the last leaf that covers a place decides (Gerber Layer Format Specification,
-- "Load Polarity (LP)" and "Graphics objects").
use Rattle.std.specs.Prelude.{◌≡◌, pos, ◌-ℤ◌, ◌*ℤ◌, Bool, true, List, ◌∷◌, ◌++◌, All}
use Rattle.cam_units.specs.declared.point.Point.{Point}
use Rattle.cam_units.specs.declared.point.Spot.{Spot}
use Rattle.cam_shapes.specs.Arc.{IsInArc}
use Rattle.cam_shapes.specs.Bar.{IsInCapsule}
use Rattle.cam_shapes.specs.Contour.{IsInContour}
use Rattle.cam_shapes.specs.Disc.{IsInDisc}
use Rattle.cam_shapes.specs.Swept.{IsInSwept}
use Rattle.cam_apertures.specs.Cover.{IsCovered}
use Rattle.cam_objects.specs.Leaves.{Leaf, Shape, Stamp, Stroke, Swept, Sweep, Filled, Drilled}

-- a place as it is seen from a point, in half nm
abbrev pub relative : Point → Spot → Spot
relative p s = record { x = s.x -ℤ pos 2 *ℤ p.x; y = s.y -ℤ pos 2 *ℤ p.y }

abbrev pub Covers : Shape → Spot → Type 0
Covers (Stamp aperture turn at) s = IsCovered aperture turn (relative at s)
Covers (Stroke capsule) s = IsInCapsule s capsule
Covers (Swept swept) s = IsInSwept s swept
Covers (Sweep arc) s = IsInArc s arc
Covers (Filled contour) s = IsInContour s contour
Covers (Drilled disc) s = IsInDisc s disc

-- no leaf covers the place
abbrev pub IsUncovered : List Leaf → Spot → Type 0
IsUncovered leaves s = All (λ l. Covers l.shape s → ⊥) leaves

-- a leaf covers the place, and the last one that does has this polarity
pub record IsPainted (leaves : List Leaf) (s : Spot) (dark : Bool) : Type 0 where
  pub before : List Leaf
  pub last : Leaf
  pub after : List Leaf
  pub split : leaves ≡ before ++ last ∷ after
  pub covered : Covers last.shape s
  pub uncovered : IsUncovered after s
  pub polarity : last.dark ≡ dark

-- the plane starts clear, dark leaves darken and clear ones clear: a place is black exactly where a leaf covers it
-- and the last one that does is dark
abbrev pub IsBlack : List Leaf → Spot → Type 0
IsBlack leaves s = IsPainted leaves s true
