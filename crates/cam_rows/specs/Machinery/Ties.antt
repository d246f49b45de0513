-- How a cap decides its ties: on its circle, and on its chord's line.
use Rattle.std.specs.Prelude.{ℕ, ℤ, pos, Bool}
use Rattle.std.specs.Int.RustNames.{int_lt}
use Rattle.cam_shapes.specs.declared.vector.Vector.{Vector}
use Rattle.cam_shapes.specs.Cap.{is_less}
use Rattle.cam_shapes.specs.Plane.{square}

-- x, from the middle of a circle's chord, where the square of half the chord is so: an end of the chord is inside where
-- it is left of the middle, or is the middle of a row below the centre
abbrev pub is_inside_chord : ℤ → ℕ → Bool → Bool
is_inside_chord x room is_below = is_less (square x) (pos room) (is_less x (pos 0) is_below)

-- the chord d leads down, or level to the right
abbrev pub leads_down_or_right : Vector → Bool
leads_down_or_right d = is_less d.y (pos 0) (int_lt (pos 0) d.x)
