-- Draws and boxes that lie beyond their lines, in half nm.
use Rattle.std.specs.Prelude.{ℤ, pos, ◌+ℤ◌, ◌-ℤ◌, ◌*ℤ◌, ◌<ℤ◌}
use Rattle.std.specs.Int.RustNames.{unsigned_abs}
use Rattle.cam_units.specs.declared.point.Point.{Point}
use Rattle.cam_units.specs.declared.point.Spot.{Spot}
use Rattle.cam_shapes.specs.Plane.{place_of}
use Rattle.cam_objects.specs.Image.{relative}

-- the cross product of two ways: positive where the second leads left of the first
abbrev pub crossed : Spot → Spot → ℤ
crossed a b = a.x *ℤ b.y -ℤ a.y *ℤ b.x

-- the greatest one of a way and a place in a rectangle about the way's start
abbrev pub reach_of : Spot → ℤ → ℤ → ℤ
reach_of a w h = w *ℤ pos (unsigned_abs a.y) +ℤ h *ℤ pos (unsigned_abs a.x)

-- a place lies left of the line from one point to another, beyond all that a rectangle passes on its way there
abbrev pub IsLeft : Point → Point → ℤ → ℤ → Spot → Type 0
IsLeft from to w h s =
    let a = relative from (place_of to) in reach_of a w h <ℤ crossed a (relative from s)
