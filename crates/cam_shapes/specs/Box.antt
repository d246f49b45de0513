-- Rectangles and obrounds (Gerber Layer Format Specification, "Standard apertures"). A side of
-- d nanometres reaches d half nanometres to both sides of the centre.
use Rattle.std.specs.Prelude.{ℤ, pos, ◌+ℤ◌, ◌-ℤ◌, ◌≤ℤ◌, ◌<ℤ◌, ◌⊎◌}
use Rattle.cam_units.specs.declared.point.Spot.{Spot}
use Rattle.cam_units.specs.Board.{IsOnBoard, IsSize}
use Rattle.cam_shapes.specs.declared.vector.Vector.{Vector}
use Rattle.cam_shapes.specs.declared.rectangle.Rectangle.{Rectangle}
use Rattle.cam_shapes.specs.declared.obround.Obround.{Obround}
use Rattle.cam_shapes.specs.Plane.{seen_from, IsNoLonger, IsBetween}

-- the limits of a rectangle
pub record IsSoundRectangle (r : Rectangle) : Type 0 where
  pub centre : IsOnBoard r.centre
  pub width : IsSize r.width.0
  pub height : IsSize r.height.0

-- the limits of an obround
pub record IsSoundObround (o : Obround) : Type 0 where
  pub centre : IsOnBoard o.centre
  pub width : IsSize o.width.0
  pub height : IsSize o.height.0

-- the closed rectangle
pub record IsInRectangle (s : Spot) (r : Rectangle) : Type 0 where
  pub wide : pos 0 <ℤ r.width.0
  pub high : pos 0 <ℤ r.height.0
  pub between : IsBetween (seen_from r.centre s) r.width.0 r.height.0

-- a place as it is seen from an end that lies n to the left or to the right of the centre
abbrev pub from_left_end : Vector → ℤ → Vector
from_left_end v n = record { x = v.x +ℤ n; y = v.y }

abbrev pub from_right_end : Vector → ℤ → Vector
from_right_end v n = record { x = v.x -ℤ n; y = v.y }

-- the axes changed for one another
abbrev pub swapped : Vector → Vector
swapped v = record { x = v.y; y = v.x }

-- a rectangle that reaches n to the left and to the right, with a disc of radius r about the middle
-- of each end
abbrev pub IsAlong : Vector → ℤ → ℤ → Type 0
IsAlong v n r = IsBetween v n r ⊎ IsNoLonger (from_left_end v n) r ⊎ IsNoLonger (from_right_end v n) r

-- the ends lie to the left and to the right of a wide obround, and above and below a high one
abbrev pub IsRounded : Vector → ℤ → ℤ → Type 0
IsRounded v w h =
    ((h ≤ℤ w) × IsAlong v (w -ℤ h) h)
    ⊎ ((w <ℤ h) × IsAlong (swapped v) (h -ℤ w) w)

-- the closed rectangle whose shorter ends are half circles
pub record IsInObround (s : Spot) (o : Obround) : Type 0 where
  pub wide : pos 0 <ℤ o.width.0
  pub high : pos 0 <ℤ o.height.0
  pub rounded : IsRounded (seen_from o.centre s) o.width.0 o.height.0
