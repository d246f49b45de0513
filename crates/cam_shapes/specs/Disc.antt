-- Discs (Gerber Layer Format Specification, "Standard apertures": circle and hole).
use Rattle.std.specs.Prelude.{pos, ◌<ℤ◌}
use Rattle.cam_units.specs.declared.point.Spot.{Spot}
use Rattle.cam_units.specs.Board.{IsOnBoard, IsSize}
use Rattle.cam_shapes.specs.declared.disc.Disc.{Disc}
use Rattle.cam_shapes.specs.Plane.{square, dot, seen_from, IsNoLonger}

-- the limits of a disc
pub record IsSoundDisc (d : Disc) : Type 0 where
  pub centre : IsOnBoard d.centre
  pub diameter : IsSize d.diameter.0

-- the closed disc: a diameter of d nanometres is a radius of d half nanometres
pub record IsInDisc (s : Spot) (d : Disc) : Type 0 where
  pub some : pos 0 <ℤ d.diameter.0
  pub near : IsNoLonger (seen_from d.centre s) d.diameter.0

-- the open disc, a hole of an aperture: its edge is no part of the hole
pub record IsInHole (s : Spot) (d : Disc) : Type 0 where
  pub some : pos 0 <ℤ d.diameter.0
  pub near : dot (seen_from d.centre s) (seen_from d.centre s) <ℤ square d.diameter.0
