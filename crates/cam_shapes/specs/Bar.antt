-- Bars and capsules. A width of w nanometres reaches w half nanometres to both sides.
use Rattle.std.specs.Prelude.{ℤ, pos, ◌*ℤ◌, ◌≤ℤ◌, ◌<ℤ◌, ◌⊎◌}
use Rattle.cam_units.specs.declared.point.Spot.{Spot}
use Rattle.cam_units.specs.Board.{IsOnBoard, IsSize}
use Rattle.cam_shapes.specs.declared.vector.Vector.{Vector}
use Rattle.cam_shapes.specs.declared.bar.Bar.{Bar}
use Rattle.cam_shapes.specs.declared.capsule.Capsule.{Capsule}
use Rattle.cam_shapes.specs.Plane.{cross, dot, seen_from, square, way, IsNoLonger}

-- the limits of a bar
pub record IsSoundBar (b : Bar) : Type 0 where
  pub from : IsOnBoard b.from
  pub to : IsOnBoard b.to
  pub width : IsSize b.width.0

-- the limits of a capsule
pub record IsSoundCapsule (c : Capsule) : Type 0 where
  pub from : IsOnBoard c.from
  pub to : IsOnBoard c.to
  pub width : IsSize c.width.0

-- v, seen from the start of a way a of some length, is between the lines across its ends
pub record IsBetweenEnds (a v : Vector) : Type 0 where
  pub long : pos 0 <ℤ dot a a
  pub after_start : pos 0 ≤ℤ dot a v
  pub before_end : dot a v ≤ℤ dot a a

-- v is at most r from the line of a way a
abbrev pub IsNearLine : Vector → Vector → ℤ → Type 0
IsNearLine a v r = square (cross a v) ≤ℤ (square r *ℤ dot a a)

-- between the ends and near the line: no place is beside a way of length 0
pub record IsBeside (a v : Vector) (r : ℤ) : Type 0 where
  pub between : IsBetweenEnds a v
  pub near : IsNearLine a v r

-- a rectangle without round ends (Gerber Layer Format Specification, "Aperture macro
-- primitives": vector line)
pub record IsInBar (s : Spot) (b : Bar) : Type 0 where
  pub wide : pos 0 <ℤ b.width.0
  pub beside : IsBeside (way b.from b.to) (seen_from b.from s) b.width.0

-- in a disc about an end, or between the ends
abbrev pub IsNearSegment : Spot → Capsule → Type 0
IsNearSegment s c =
    IsNoLonger (seen_from c.from s) c.width.0
    ⊎ IsNoLonger (seen_from c.to s) c.width.0
    ⊎ IsBeside (way c.from c.to) (seen_from c.from s) c.width.0

-- the stroke of a round tool along a straight line (Gerber Layer Format Specification,
-- "Plotting")
pub record IsInCapsule (s : Spot) (c : Capsule) : Type 0 where
  pub wide : pos 0 <ℤ c.width.0
  pub near : IsNearSegment s c
