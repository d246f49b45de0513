-- Painting on a canvas from the last leaf on: each of its pixels has a place, and it has an ink once a leaf covered it. Of
-- the leaves that cover a place the last one decides (Gerber Layer Format Specification, "Graphics objects"), so it is the
-- first that comes, and what comes after it lies beneath.
use Rattle.std.specs.Prelude.{◌≡◌, ◌↔◌, ℕ, Bool, List, Option, IsSome}
use Rattle.std.specs.Option.{option_or}
use Rattle.cam_units.specs.Board.{IsOnBoard}
use Rattle.cam_units.specs.Boxes.{Holds}
use Rattle.cam_units.specs.declared.bounds.Bounds.{Bounds}
use Rattle.cam_units.specs.declared.point.Spot.{Spot}
use Rattle.cam_shapes.specs.Arc.{IsSoundArc}
use Rattle.cam_shapes.specs.Bar.{IsSoundCapsule}
use Rattle.cam_shapes.specs.Disc.{IsSoundDisc}
use Rattle.cam_shapes.specs.Placing.{IsPlaceable, placed_contour}
use Rattle.cam_shapes.specs.Swept.{IsSoundSwept}
use Rattle.cam_apertures.specs.Soundness.{IsSoundAperture}
use Rattle.cam_objects.specs.declared.canvas.Figure.{Figure}
use Rattle.cam_objects.specs.declared.canvas.Figure.TheVariants.{
  Stamp as AStamp,
  Stroke as AStroke,
  Swept as ASwept,
  Sweep as ASweep,
  Filled as AFilled,
  Drilled as ADrilled,
}
use Rattle.cam_objects.specs.declared.canvas.Print.{Print}
use Rattle.cam_objects.specs.Image.{Covers}
use Rattle.cam_objects.specs.Leaves.{Leaf, Shape, Stamp, Stroke, Swept, Sweep, Filled, Drilled, leaf}
use Rattle.cam_objects.specs.Tests.{last_ink}

-- the shape of a figure
abbrev pub shape_of : Figure → Shape
shape_of (AStamp aperture turn at) = Stamp aperture.now turn at
shape_of (AStroke capsule) = Stroke capsule
shape_of (ASwept swept) = Swept swept
shape_of (ASweep arc) = Sweep arc
shape_of (AFilled contour turn offset) = Filled (placed_contour turn offset contour.now)
shape_of (ADrilled disc) = Drilled disc

-- and the leaf of a print
abbrev pub leaf_of : Print → Leaf
leaf_of p = leaf (shape_of p.figure) p.dark

-- a figure of sound parts that stands on the board
abbrev pub IsSoundFigure : Figure → Type 0
IsSoundFigure (AStamp aperture turn at) = IsSoundAperture aperture.now × IsOnBoard at
IsSoundFigure (AStroke capsule) = IsSoundCapsule capsule
IsSoundFigure (ASwept swept) = IsSoundSwept swept
IsSoundFigure (ASweep arc) = IsSoundArc arc
IsSoundFigure (AFilled contour turn offset) = IsPlaceable turn offset contour.now
IsSoundFigure (ADrilled disc) = IsSoundDisc disc

-- whose box holds all that it covers
pub record IsSoundPrint (p : Print) : Type 0 where
  pub figure : IsSoundFigure p.figure
  pub held : (s : Spot) → Covers (shape_of p.figure) s → Holds p.bounds s

-- each pixel that has its place in a box is decided
abbrev pub IsDecidedIn : {V : Type 0} → (V → ℕ → ℕ → Type 0) → (V → ℕ → ℕ → Spot) → (V → ℕ → ℕ → Option Bool) → V → Bounds → Type 0
IsDecidedIn has place ink canvas bounds =
    (column row : ℕ) → has canvas column row → Holds bounds (place canvas column row) → IsSome (ink canvas column row)

-- leaves painted on a canvas, beneath those that were before: no pixel moves, what is decided stays, and what is not takes
-- what the leaves decide
pub record Paints {V : Type 0} (has : V → ℕ → ℕ → Type 0) (place : V → ℕ → ℕ → Spot) (ink : V → ℕ → ℕ → Option Bool)
    (old : V) (leaves : List Leaf) (new : V) : Type 0 where
  pub pixels : (column row : ℕ) → has new column row ↔ has old column row
  pub places : place new ≡ place old
  pub inks : (column row : ℕ) → has old column row
      → ink new column row ≡ option_or (ink old column row) (last_ink leaves (place old column row))
