-- Centres by steps from the first one, and the runs of those in a strip.
use Rattle.std.proofs.Common.{◌≡◌, ℕ, ◌-◌, ◌*◌, ◌<◌, ◌≤◌, ◌↔◌, ℤ, pos, ◌+ℤ◌, ◌*ℤ◌, ◌≤ℤ◌, ◌<ℤ◌, Fits, w64, arith}
use Rattle.std.specs.Int.{div_ceil}
use Rattle.std.specs.Int.RustNames.{unsigned_abs}
use Rattle.std.proofs.lemmas.Bool.{cases_lt}
use Rattle.std.proofs.lemmas.Grind.{div_ceil_times}
use Rattle.std.proofs.lemmas.Int.{by_lt_z, ints}
use Rattle.std.proofs.lemmas.Nat.{mul-le}
use Rattle.cam_rows.specs.declared.centres.Centres.{Centres}
use Rattle.cam_rows.specs.Rows.{IsRow}
use Rattle.cam_rows.specs.Runs.{IsWideRow}

-- how many steps end before a gap, by division
steps_before : (n gap step : ℕ) → 0 < step → (n < div_ceil gap step) ↔ (n * step < gap)
steps_before n gap step some = grind (arith, div_ceil_times, mul-le, cases_lt)

-- which centres lie left of x
pub left_by_division : (first step x : ℤ) (n gap pitch steps : ℕ) → pos 1 ≤ℤ step → step ≡ pos pitch
    → x ≡ first +ℤ pos gap → steps ≡ div_ceil gap pitch → (n < steps) ↔ ((first +ℤ pos n *ℤ step) <ℤ x)
left_by_division first step x n gap pitch steps positive is_step is_x is_steps = grind (arith, ints, steps_before)

-- a row is one of the wide ones
pub wide_row : (c : Centres) → IsRow c → IsWideRow c
wide_row c row = grind arith

-- the first and the last of some centres are places of the board
pub first_near : (c : Centres) → IsWideRow c → unsigned_abs c.x < 4000000000
first_near c row = grind (arith, ints)

pub last_near : (c : Centres) → IsWideRow c → unsigned_abs (c.x +ℤ pos (c.n - 1) *ℤ c.step) < 4000000000
last_near c row = (row.centres (c.n - 1) (omega (arith, row.count.0))).x

pub reach_fits : (last count pitch : ℕ) (first step : ℤ) → last ≡ count - 1 → step ≡ pos pitch
    → unsigned_abs first < 4000000000 → unsigned_abs (first +ℤ pos (count - 1) *ℤ step) < 4000000000
    → Fits w64 (last * pitch)
reach_fits last count pitch first step is_last is_step h k = grind (arith, ints)

-- where x is not right of the first one, none lies left of it, and where it is right of the last one, all do
pub none_left : (first step x : ℤ) (n pitch : ℕ) → step ≡ pos pitch → x ≤ℤ first
    → (n < 0) ↔ ((first +ℤ pos n *ℤ step) <ℤ x)
none_left first step x n pitch is_step over = grind (arith, ints)

pub all_left : (first step x : ℤ) (n count last pitch gap : ℕ) → step ≡ pos pitch → x ≡ first +ℤ pos gap
    → last ≡ count - 1 → last * pitch < gap → n < count → (n < count) ↔ ((first +ℤ pos n *ℤ step) <ℤ x)
all_left first step x n count last pitch gap is_step is_x is_last far within = grind (arith, mul-le, ints)

-- and else as many lie left of it as steps end before the gap
pub few_before : (gap pitch steps last : ℕ) → 0 < pitch → steps ≡ div_ceil gap pitch → gap ≤ last * pitch → steps ≤ last
few_before gap pitch steps last some is within = grind (arith, cases_lt, steps_before)

-- and the same columns of a run
pub columns_in_strip : (n first end : ℕ) (x left right low high : ℤ) → low ≡ left → high ≡ right +ℤ pos 1
    → (n < first) ↔ (x <ℤ low) → (n < end) ↔ (x <ℤ high)
    → ((first ≤ n) × (n < end)) ↔ ((left ≤ℤ x) × (x ≤ℤ right))
columns_in_strip n first end x left right low high is_low is_high before through = grind (arith, by_lt_z, ints, cases_lt)
