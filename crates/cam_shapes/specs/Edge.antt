-- Edges of closed polygons, by the rule of odd crossings. Ties are decided as if each place lay
-- a little farther right, and much less than that higher.
use Rattle.std.specs.Prelude.{◌≡◌, ◌↔◌, ℕ, ◌<◌, ℤ, pos, ◌+ℤ◌, ◌-ℤ◌, ◌*ℤ◌, ◌≤ℤ◌, ◌<ℤ◌, ◌⊎◌, Bool, false, IsTrue}
use Rattle.std.specs.Prelude.{if◌then◌else◌}
use Rattle.std.specs.Int.RustNames.{int_lt}
use Rattle.cam_units.specs.declared.point.Point.{Point}
use Rattle.cam_units.specs.declared.point.Spot.{Spot}
use Rattle.cam_shapes.specs.Plane.{cross, seen_from, way}

-- an edge of a closed polygon
pub record Edge : Type 0 where
  pub from : Point
  pub to : Point

abbrev pub edge : Point → Point → Edge
edge p q = record { from = p; to = q }

-- the point is higher than the place
abbrev pub is_above : Point → Spot → Bool
is_above p s = int_lt s.y (pos 2 *ℤ p.y)

-- positive where the place is left of the edge, negative where it is right of it
abbrev pub side : Spot → Edge → ℤ
side s e = cross (way e.from e.to) (seen_from e.from s)

abbrev pub is_left : Spot → Edge → Bool
is_left s e = int_lt (pos 0) (side s e)

abbrev pub is_right : Spot → Edge → Bool
is_right s e = int_lt (side s e) (pos 0)

-- the edge crosses the ray that goes right from the place: it falls from above the place's
-- height with the place on its right, or rises above that height with the place on its left
abbrev pub crosses_ray : Spot → Edge → Bool
crosses_ray s e =
    if is_above e.from s
    then (if is_above e.to s then false else is_right s e)
    else (if is_above e.to s then is_left s e else false)

-- the place's height is from the edge's start up to below its end
pub record IsRising (s : Spot) (e : Edge) : Type 0 where
  pub from_start : (pos 2 *ℤ e.from.y) ≤ℤ s.y
  pub to_end : s.y <ℤ (pos 2 *ℤ e.to.y)

-- the place's height is from the edge's end up to below its start
pub record IsFalling (s : Spot) (e : Edge) : Type 0 where
  pub to_end : (pos 2 *ℤ e.to.y) ≤ℤ s.y
  pub from_start : s.y <ℤ (pos 2 *ℤ e.from.y)

-- how far the edge leads up, and to the right
abbrev pub rise : Edge → ℤ
rise e = (way e.from e.to).y

abbrev pub run : Edge → ℤ
run e = (way e.from e.to).x

-- the x of the edge at the place's height, times its rise
abbrev pub crossing : Spot → Edge → ℤ
crossing s e = pos 2 *ℤ e.from.x *ℤ rise e +ℤ (s.y -ℤ pos 2 *ℤ e.from.y) *ℤ run e

-- n / m is the x of the edge at the place's height
pub record IsCrossing (s : Spot) (e : Edge) (n : ℤ) (m : ℕ) : Type 0 where
  pub some : 0 < m
  pub lies : n *ℤ rise e ≡ pos m *ℤ crossing s e

-- an edge crosses the ray exactly where exactly one of its ends is higher than the place, and the
-- edge at the place's height lies strictly right of the place
pub record CrossingLaw : Type 0 where
  pub rising : (s : Spot) (e : Edge) → IsRising s e → IsTrue (crosses_ray s e) ↔ (s.x *ℤ rise e) <ℤ crossing s e
  pub falling : (s : Spot) (e : Edge) → IsFalling s e → IsTrue (crosses_ray s e) ↔ crossing s e <ℤ (s.x *ℤ rise e)
  pub level : (s : Spot) (e : Edge) → ¬ IsRising s e → ¬ IsFalling s e → ¬ IsTrue (crosses_ray s e)
  pub right : (s : Spot) (e : Edge) (n : ℤ) (m : ℕ) → IsCrossing s e n m → IsRising s e ⊎ IsFalling s e
      → IsTrue (crosses_ray s e) ↔ (pos m *ℤ s.x) <ℤ n
