-- Caps of arcs. Ties are decided as if each place lay a little farther right, and much less than
-- that higher.
use Rattle.std.specs.Prelude.{ℕ, ◌*◌, ℤ, pos, ◌≤ℤ◌, IsTrue, Bool, true, false, ◌&&◌, if◌then◌else◌}
use Rattle.std.specs.Int.RustNames.{int_lt}
use Rattle.std.specs.Ordering.{int_eq}
use Rattle.cam_units.specs.declared.point.Spot.{Spot}
use Rattle.cam_units.specs.Board.{IsOnBoard}
use Rattle.cam_shapes.specs.declared.vector.Vector.{Vector}
use Rattle.cam_shapes.specs.declared.cap.Cap.{Cap}
use Rattle.cam_shapes.specs.Plane.{cross, dot, seen_from, way, IsBetween}

-- what a cap is made of lies on the board
pub record IsSoundCap (c : Cap) : Type 0 where
  pub from : IsOnBoard c.from
  pub to : IsOnBoard c.to
  pub centre : IsOnBoard c.centre

-- m is less than n, or the same and the tie is so decided
abbrev pub is_less : ℤ → ℤ → Bool → Bool
is_less m n tie = if int_eq m n then tie else int_lt m n

-- v is in the circle about the centre through s, both as they are seen from there: on the circle,
-- where it is left of the centre, or at the centre's x and lower
abbrev pub is_in_circle : Vector → Vector → Bool
is_in_circle s v = is_less (dot v v) (dot s s) (is_less v.x (pos 0) (int_lt v.y (pos 0)))

-- v, as it is seen from the start of the chord d, is left of the chord: on the chord's line, where
-- the chord leads down, or level to the right
abbrev pub is_left_of_chord : Vector → Vector → Bool
is_left_of_chord d v = is_less (pos 0) (cross d v) (is_less d.y (pos 0) (int_lt (pos 0) d.x))

abbrev pub is_full_circle : Cap → Bool
is_full_circle c = int_eq c.from.x c.to.x && int_eq c.from.y c.to.y

-- right of the chord, where a counterclockwise arc passes, or left of it
abbrev pub is_on_side : Spot → Cap → Bool
is_on_side s c =
    let left = is_left_of_chord (way c.from c.to) (seen_from c.from s) in
    if c.ccw then (if left then false else true) else left

-- the disc about the centre through the arc's start, cut by the chord
abbrev pub is_in_cap : Spot → Cap → Bool
is_in_cap s c =
    is_in_circle (way c.centre c.from) (seen_from c.centre s)
    && (if is_full_circle c then true else is_on_side s c)

-- where m is at least the circle's radius, a place in the cap is at most m to each side of the centre
abbrev pub CapSquareLaw : Type 0
CapSquareLaw =
    (s : Spot) (c : Cap) (m : ℕ)
    → dot (way c.centre c.from) (way c.centre c.from) ≤ℤ pos (m * m)
    → IsTrue (is_in_cap s c)
    → IsBetween (seen_from c.centre s) (pos m) (pos m)
