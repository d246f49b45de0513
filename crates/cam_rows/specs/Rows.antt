-- Rows: the centres of up to 64 pixels side by side, and which of them a shape holds.
use Rattle.std.specs.Prelude.{◌↔◌, ℕ, ◌<◌, ◌≤◌, pos, ◌+ℤ◌, ◌-ℤ◌, ◌*ℤ◌, ◌≤ℤ◌}
use Rattle.std.specs.Int.{IsBitSet}
use Rattle.cam_units.specs.Board.{IsInReach}
use Rattle.cam_units.specs.declared.point.Spot.{Spot}
use Rattle.cam_rows.specs.declared.centres.Centres.{Centres}

-- the centre of a pixel, which is counted from the left
abbrev pub centre_at : Centres → ℕ → Spot
centre_at c i = record { x = c.x +ℤ pos i *ℤ c.step; y = c.y }

-- the leftmost one
abbrev pub first_centre : Centres → Spot
first_centre c = record { x = c.x; y = c.y }

-- from 1 to 64 centres, each right of the one before it, all of them places of the board, or as they are seen from a
-- point of it
pub record IsRow (c : Centres) : Type 0 where
  pub count : (1 ≤ c.n) × (c.n ≤ 64)
  pub step : pos 1 ≤ℤ c.step
  pub centres : (i : ℕ) → i < c.n → IsInReach (centre_at c i)

-- bit i of a row is set exactly where the shape holds centre i; bits behind the last centre are clear
abbrev pub Marks : ℕ → Centres → (Spot → Type 0) → Type 0
Marks row c IsIn = (i : ℕ) → i < 64 → IsBitSet row i ↔ ((i < c.n) × IsIn (centre_at c i))

-- the row that lies so many steps lower
abbrev pub row_below : Centres → ℕ → Centres
row_below c k = record { x = c.x; y = c.y -ℤ pos k *ℤ c.step; step = c.step; n = c.n }
