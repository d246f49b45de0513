-- The limits of the board.
use Rattle.std.specs.Prelude.{ℕ, ◌<◌, ℤ, pos, ◌≤ℤ◌}
use Rattle.std.specs.Int.RustNames.{unsigned_abs}
use Rattle.cam_refusals.specs.Limits.{board_limit, size_limit}
use Rattle.cam_units.specs.declared.point.Point.{Point}
use Rattle.cam_units.specs.declared.point.Spot.{Spot}

-- the coordinates of a place are under it in absolute value: a metre, in half nanometres
abbrev pub place_limit : ℕ
place_limit = 2000000000

-- a point of the board
pub record IsOnBoard (p : Point) : Type 0 where
  pub x : unsigned_abs p.x < board_limit
  pub y : unsigned_abs p.y < board_limit

-- a place of the board, in half nanometres
pub record IsPlace (s : Spot) : Type 0 where
  pub x : unsigned_abs s.x < place_limit
  pub y : unsigned_abs s.y < place_limit

-- a diameter, side or width, in nanometres
abbrev pub IsSize : ℤ → Type 0
IsSize n = (pos 0 ≤ℤ n) × (n ≤ℤ pos size_limit)

-- a place of the board as it is seen from a point of the board, in half nanometres
pub record IsInReach (s : Spot) : Type 0 where
  pub x : unsigned_abs s.x < 4000000000
  pub y : unsigned_abs s.y < 4000000000
