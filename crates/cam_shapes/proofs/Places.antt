-- Points that are moved.
use Rattle.std.proofs.Common.{◌≡◌, ◌<◌, ◌^◌, ℤ, ◌+ℤ◌, FitsSigned, w64, ap, ◌∙◌, arith}
use Rattle.std.proofs.lemmas.Int.{ints, fits_signed_from_abs}
use Rattle.std.specs.Int.RustNames.{unsigned_abs}
use Rattle.cam_units.specs.declared.point.Point.{Point}
use Rattle.cam_units.specs.Board.{IsOnBoard}
use Rattle.cam_units.specs.declared.turn.Turn.{Turn}
use Rattle.cam_units.specs.declared.turn.Turn.TheVariants.{R0, R90, R180, R270, M0, M90, M180, M270}
use Rattle.cam_units.specs.Turns.{applied, matrix_of, IsTurnable}
use Rattle.cam_units.proofs.TurnLaws.{same_point}
use Rattle.cam_shapes.specs.Placing.{IsOffset, IsPlaceablePoint}
use Rattle.cam_shapes.specs.Shifting.{IsShiftable}
use Rattle.cam_shapes.proofs.Widths.{narrow}

abbrev pub sum_of : Point → Point → Point
sum_of p o = record { x = p.x +ℤ o.x; y = p.y +ℤ o.y }

-- the sum as 64 bits compute it
abbrev pub computed_sum : Point → Point → Point
computed_sum p o = record { x = narrow (narrow p.x +ℤ narrow o.x); y = narrow (narrow p.y +ℤ narrow o.y) }

pub kept_sum : (q a o : Point) → IsOnBoard q → IsOffset o → q ≡ a → computed_sum q o ≡ sum_of a o
kept_sum q a o on_board offset e =
    same_point (computed_sum q o) (sum_of q o) (omega (arith, ints)) (omega (arith, ints))
    ∙ ap (λ p. sum_of p o) e

pub turnable : (p : Point) → IsOnBoard p → IsTurnable p
turnable p h = record { x = omega (arith, h.x); y = omega (arith, h.y) }

short_sum : (a b : ℤ) → unsigned_abs a < 1000000000 → unsigned_abs b < 2000000000 → unsigned_abs (a +ℤ b) < 2 ^ 63
short_sum a b p q = omega (arith, ints)

pub sum_fits : (a b : ℤ) → unsigned_abs a < 1000000000 → unsigned_abs b < 2000000000
    → FitsSigned w64 (narrow a +ℤ narrow b)
sum_fits a b p q = grind (arith, narrow, ints, fits_signed_from_abs, short_sum)

-- the same of points that may be moved
pub long_sum_fits : (a b : ℤ) → unsigned_abs a < 2 ^ 62 → unsigned_abs b < 2 ^ 62
    → FitsSigned w64 (narrow a +ℤ narrow b)
long_sum_fits a b p q = omega (arith, ints)

kept_long_sum : (a b : ℤ) → unsigned_abs a < 2 ^ 62 → unsigned_abs b < 2 ^ 62
    → narrow (narrow a +ℤ narrow b) ≡ a +ℤ b
kept_long_sum a b p q = omega (arith, ints)

pub kept_shift : (p by : Point) → IsShiftable p → IsShiftable by → computed_sum p by ≡ sum_of p by
kept_shift p by h k = grind (arith, same_point, kept_long_sum)

-- a turn keeps a point on the board
on_board_turned : (t : Turn) (p : Point) → IsOnBoard p → IsOnBoard (applied (matrix_of t) p)
on_board_turned R0 p h = record { x = omega (arith, ints, h.x); y = omega (arith, ints, h.y) }
on_board_turned R90 p h = record { x = omega (arith, ints, h.y); y = omega (arith, ints, h.x) }
on_board_turned R180 p h = record { x = omega (arith, ints, h.x); y = omega (arith, ints, h.y) }
on_board_turned R270 p h = record { x = omega (arith, ints, h.y); y = omega (arith, ints, h.x) }
on_board_turned M0 p h = record { x = omega (arith, ints, h.x); y = omega (arith, ints, h.y) }
on_board_turned M90 p h = record { x = omega (arith, ints, h.y); y = omega (arith, ints, h.x) }
on_board_turned M180 p h = record { x = omega (arith, ints, h.x); y = omega (arith, ints, h.y) }
on_board_turned M270 p h = record { x = omega (arith, ints, h.y); y = omega (arith, ints, h.x) }

difference_short : (a b : ℤ) → unsigned_abs a < 1000000000 → unsigned_abs (a +ℤ b) < 1000000000
    → unsigned_abs b < 2000000000
difference_short a b p q = omega (arith, ints)

-- what places a point of the board on the board is such an offset
pub offset_short : (t : Turn) (o p : Point) → IsPlaceablePoint t o p → IsOffset o
offset_short t o p h = grind (arith, on_board_turned, difference_short)
