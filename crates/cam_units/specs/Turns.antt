-- Mirrors and quarter turns as signed permutations of the axes (Gerber Layer Format Specification,
-- "Aperture Transformations (LP, LM, LR, LS)": mirroring comes before rotation, which is counterclockwise).
use Rattle.std.specs.Prelude.{◌≡◌, ◌^◌, ◌<◌, ℤ, pos, negsuc, ◌+ℤ◌, ◌*ℤ◌}
use Rattle.std.specs.Int.RustNames.{unsigned_abs}
use Rattle.cam_units.specs.declared.point.Point.{Point}
use Rattle.cam_units.specs.declared.turn.Turn.{Turn}
use Rattle.cam_units.specs.declared.turn.Turn.TheVariants.{R0, R90, R180, R270, M0, M90, M180, M270}

-- the rows (xx xy) and (yx yy)
pub record Matrix : Type 0 where
  pub xx : ℤ
  pub xy : ℤ
  pub yx : ℤ
  pub yy : ℤ

abbrev pub matrix_rows : ℤ → ℤ → ℤ → ℤ → Matrix
matrix_rows xx xy yx yy = record { xx = xx; xy = xy; yx = yx; yy = yy }

-- minus one
abbrev pub minus : ℤ
minus = negsuc 0

abbrev pub matrix_of : Turn → Matrix
matrix_of R0 = matrix_rows (pos 1) (pos 0) (pos 0) (pos 1)
matrix_of R90 = matrix_rows (pos 0) minus (pos 1) (pos 0)
matrix_of R180 = matrix_rows minus (pos 0) (pos 0) minus
matrix_of R270 = matrix_rows (pos 0) (pos 1) minus (pos 0)
matrix_of M0 = matrix_rows minus (pos 0) (pos 0) (pos 1)
matrix_of M90 = matrix_rows (pos 0) minus minus (pos 0)
matrix_of M180 = matrix_rows (pos 1) (pos 0) (pos 0) minus
matrix_of M270 = matrix_rows (pos 0) (pos 1) (pos 1) (pos 0)

-- first n, then m
abbrev pub product : Matrix → Matrix → Matrix
product m n =
    matrix_rows
    (m.xx *ℤ n.xx +ℤ m.xy *ℤ n.yx) (m.xx *ℤ n.xy +ℤ m.xy *ℤ n.yy)
    (m.yx *ℤ n.xx +ℤ m.yy *ℤ n.yx) (m.yx *ℤ n.xy +ℤ m.yy *ℤ n.yy)

abbrev pub applied : Matrix → Point → Point
applied m p = record { x = m.xx *ℤ p.x +ℤ m.xy *ℤ p.y; y = m.yx *ℤ p.x +ℤ m.yy *ℤ p.y }

-- the negative of each coordinate is a coordinate
pub record IsTurnable (p : Point) : Type 0 where
  pub x : unsigned_abs p.x < 2 ^ 63
  pub y : unsigned_abs p.y < 2 ^ 63

-- a turn by another turn is one after the other
abbrev pub ThenLaw : Type 0
ThenLaw = (m n : Matrix) (p : Point) → applied (product m n) p ≡ applied m (applied n p)

abbrev pub AssociativeLaw : Type 0
AssociativeLaw = (l m n : Matrix) → product (product l m) n ≡ product l (product m n)

-- each turn is taken back by one turn, before it or behind it
abbrev pub InverseLaw : Type 0
InverseLaw =
    (t : Turn) → (back : Turn)
    × (product (matrix_of back) (matrix_of t) ≡ matrix_of R0)
    × (product (matrix_of t) (matrix_of back) ≡ matrix_of R0)

-- the turn behind a quarter turn more; the fourth leads back to the first
abbrev pub next_quarter : Turn → Turn
next_quarter R0 = R90
next_quarter R90 = R180
next_quarter R180 = R270
next_quarter R270 = R0
next_quarter M0 = M90
next_quarter M90 = M180
next_quarter M180 = M270
next_quarter M270 = M0

-- the eight turns differ, R90 moves the x axis to the y axis, each quarter is one R90 more, and M0
-- comes before all of an M
pub record QuartersLaw : Type 0 where
  pub differ : (t u : Turn) → matrix_of t ≡ matrix_of u → t ≡ u
  pub quarter : (p : Point) → applied (matrix_of R90) p ≡ record { x = minus *ℤ p.y; y = p.x }
  pub more : (t : Turn) → matrix_of (next_quarter t) ≡ product (matrix_of R90) (matrix_of t)
  pub mirror : (p : Point) → applied (matrix_of M0) p ≡ record { x = minus *ℤ p.x; y = p.y }
