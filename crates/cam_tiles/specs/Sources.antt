-- What paints a layer: its leaves in order, and how many tiles were asked for.
use Rattle.std.specs.Prelude.{ℕ, Bool, List}
use Rattle.cam_units.specs.declared.point.Spot.{Spot}
use Rattle.cam_objects.specs.Leaves.{Leaf}
use Rattle.cam_objects.specs.Tests.{is_black}

pub record Painted : Type 0 where
  pub leaves : List Leaf
  pub asked : ℕ

-- the image, as a test of places: painting in order
abbrev pub picture_of : Painted → Spot → Bool
picture_of p = is_black p.leaves

-- nobody has asked yet
abbrev pub unasked : List Leaf → Painted
unasked leaves = record { leaves = leaves; asked = 0 }
