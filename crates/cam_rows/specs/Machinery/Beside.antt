-- The inside of a bar, by a cross product with its way.
use Rattle.std.specs.Prelude.{◌⊎◌, ℤ, pos, ◌+ℤ◌, ◌-ℤ◌, ◌*ℤ◌, ◌≤ℤ◌, ◌<ℤ◌}
use Rattle.cam_units.specs.declared.point.Point.{Point}
use Rattle.cam_units.specs.declared.point.Spot.{Spot}
use Rattle.cam_shapes.specs.Plane.{dot, seen_from, square, way}

-- a cross product with a way of this squared length, of a place that is at most w from the way's line, where there is
-- some length and some width
pub record IsInside (z w length : ℤ) : Type 0 where
  pub wide : pos 0 <ℤ w
  pub long : pos 0 <ℤ length
  pub near : square z ≤ℤ (square w *ℤ length)

-- a number is at most the reach from 0
pub record IsWithinReach (z reach : ℤ) : Type 0 where
  pub left : pos 0 ≤ℤ (z +ℤ reach)
  pub right : pos 0 ≤ℤ (reach -ℤ z)

-- a place lies so far above the start of a way that leads up, or so far below that of one that leads down, that it is
-- ahead of the start where it is at most w from the way's line
abbrev pub IsFar : Point → Point → ℤ → Spot → Type 0
IsFar p q w s =
    ((pos 0 <ℤ (way p q).y) × (w ≤ℤ (seen_from p s).y))
    ⊎ (((way p q).y <ℤ pos 0) × ((seen_from p s).y ≤ℤ (pos 0 -ℤ w)))

-- so far, or ahead of the start
abbrev pub IsFarOrAhead : Point → Point → ℤ → Spot → Type 0
IsFarOrAhead p q w s = IsFar p q w s ⊎ (pos 0 ≤ℤ dot (way p q) (seen_from p s))
