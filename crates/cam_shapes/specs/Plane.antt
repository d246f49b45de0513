-- The plane of places, in half nanometres: a point of x nanometres lies at 2 * x.
use Rattle.std.specs.Prelude.{◌^◌, ◌<◌, ℤ, pos, ◌+ℤ◌, ◌-ℤ◌, ◌*ℤ◌, ◌≤ℤ◌}
use Rattle.std.specs.Int.RustNames.{unsigned_abs}
use Rattle.cam_units.specs.declared.point.Point.{Point}
use Rattle.cam_units.specs.declared.point.Spot.{Spot}
use Rattle.cam_shapes.specs.declared.vector.Vector.{Vector}

abbrev pub square : ℤ → ℤ
square n = n *ℤ n

-- the place of a point
abbrev pub place_of : Point → Spot
place_of p = record { x = pos 2 *ℤ p.x; y = pos 2 *ℤ p.y }

-- the way from a point to a place
abbrev pub seen_from : Point → Spot → Vector
seen_from p s = record { x = s.x -ℤ pos 2 *ℤ p.x; y = s.y -ℤ pos 2 *ℤ p.y }

-- the way from one point to another
abbrev pub way : Point → Point → Vector
way p q = seen_from p (place_of q)

abbrev pub dot : Vector → Vector → ℤ
dot a b = a.x *ℤ b.x +ℤ a.y *ℤ b.y

-- positive where b points left of a, negative where it points right
abbrev pub cross : Vector → Vector → ℤ
cross a b = a.x *ℤ b.y -ℤ a.y *ℤ b.x

-- a way from a point of the board to a place in its reach
pub record IsSeen (v : Vector) : Type 0 where
  pub x : unsigned_abs v.x < 6000000000
  pub y : unsigned_abs v.y < 6000000000

-- a way whose products fit
pub record IsShort (v : Vector) : Type 0 where
  pub x : unsigned_abs v.x < 2 ^ 33
  pub y : unsigned_abs v.y < 2 ^ 33

-- a way that is at most r long
abbrev pub IsNoLonger : Vector → ℤ → Type 0
IsNoLonger v r = dot v v ≤ℤ square r

-- a way that leads at most w to the left or right, and at most h up or down
pub record IsBetween (v : Vector) (w h : ℤ) : Type 0 where
  pub across : pos (unsigned_abs v.x) ≤ℤ w
  pub along : pos (unsigned_abs v.y) ≤ℤ h
