-- Rows one below another.
use Rattle.std.proofs.Common.{◌≡◌, ◌+◌, ◌/◌, ◌<◌, ◌↔◌, ℕ, min, ℤ, pos, ◌+ℤ◌, ◌-ℤ◌, ◌*ℤ◌, ◌≤ℤ◌, arith}
use Rattle.std.specs.Int.RustNames.{unsigned_abs}
use Rattle.std.proofs.Math.Nat.{le-div_iff_mul-le}
use Rattle.std.proofs.lemmas.Int.{ints}
use Rattle.std.proofs.lemmas.Nat.{mul-le}
use Rattle.cam_rows.specs.declared.centres.Centres.{Centres}
use Rattle.cam_rows.specs.Runs.{IsWideRow}

-- few steps lead from one place of the board to another
pub few_steps : (y step : ℤ) (steps : ℕ) → pos 1 ≤ℤ step → unsigned_abs y < 4000000000
    → unsigned_abs (y -ℤ pos steps *ℤ step) < 4000000000 → steps < 8000000000
few_steps y step steps h k l = grind (arith, ints, mul-le)

-- the top row lies in reach
pub top_near : (top : Centres) → IsWideRow top → unsigned_abs top.y < 4000000000
top_near top row = (row.centres 0 (omega (arith, row.count.0))).y

-- how many of them lie at a height or above it, by division
pub above_by_division : (y height step : ℤ) (k fall pitch count rows : ℕ) → pos 1 ≤ℤ step → step ≡ pos pitch
    → y ≡ height +ℤ pos fall → count ≡ min (fall / pitch + 1) rows → k < rows
    → (k < count) ↔ (height ≤ℤ (y -ℤ pos k *ℤ step))
above_by_division y height step k fall pitch count rows positive is_step is_y is within = grind (arith, le-div_iff_mul-le, ints)
