-- Half planes that hold all of some rows: the least of their numbers is one in a corner.
use Rattle.std.proofs.Common.{◌≡◌, ◌↔◌, ◌^◌, ◌<◌, ◌≤◌, ℕ, IsTrue, ℤ, pos, to_z, ◌*◌, ◌+ℤ◌, ◌*ℤ◌, ◌≤ℤ◌, arith}
use Rattle.std.specs.Int.{w128}
use Rattle.std.specs.Int.Signed.{le_z}
use Rattle.std.specs.Int.RustNames.{unsigned_abs}
use Rattle.std.proofs.lemmas.Int.{ints, unsigned_abs-mul}
use Rattle.std.proofs.lemmas.Nat.{mul-le}
use Rattle.cam_shapes.proofs.Widths.{wide}
use Rattle.cam_rows.specs.declared.half_plane.HalfPlane.{HalfPlane}
use Rattle.cam_rows.specs.Machinery.Narrowing.{IsUp}
use Rattle.cam_rows.specs.Machinery.Slopes.{lowered}
use Rattle.cam_rows.specs.Runs.{most_columns}
use Rattle.cam_rows.proofs.Quotients.{kept_number}

-- a number and the least one, in the same row and in others
pub least_number : (s : HalfPlane) (row column k i : ℕ) → unsigned_abs s.down < 2 ^ 100 → unsigned_abs s.step < 2 ^ 100
    → (pos row *ℤ wide s.down) ≤ℤ (pos k *ℤ wide s.down) → (pos column *ℤ wide s.step) ≤ℤ (pos i *ℤ wide s.step)
    → IsUp s row column → IsUp s k i
least_number s row column k i h m down across up =
    let lower = rw (kept_number s.down (omega arith)) at down in
    let further = rw (kept_number s.step (omega arith)) at across in
    omega (arith, ints, lower, further, up)

-- the least one, as 128 bits compute it
short_part : (step : ℤ) (column : ℕ) → column < most_columns → unsigned_abs step < 2 ^ 100
    → unsigned_abs (pos column *ℤ step) ≤ 32768 * 2 ^ 100
short_part step column few short = grind (arith, unsigned_abs-mul, mul-le)

sum_kept : (f part : ℤ) → unsigned_abs f < 2 ^ 100 → unsigned_abs part ≤ 32768 * 2 ^ 100
    → wide (wide f +ℤ wide part) ≡ f +ℤ part
sum_kept f part h k = omega (arith, ints)

pub kept_least : (f step : ℤ) (column : ℕ) → unsigned_abs f < 2 ^ 100 → unsigned_abs step < 2 ^ 100 → column < most_columns
    → wide (wide f +ℤ wide (to_z w128 column *ℤ wide step)) ≡ f +ℤ pos column *ℤ step
kept_least f step column short across few = grind (arith, ints, kept_number, sum_kept, short_part)

pub least_test : (s : HalfPlane) (row column : ℕ) (f : ℤ) → f ≡ (lowered row s).first
    → unsigned_abs (lowered row s).first < 2 ^ 100 → unsigned_abs s.step < 2 ^ 100 → column < most_columns
    → IsTrue (le_z (pos 0) (wide (wide f +ℤ wide (to_z w128 column *ℤ wide s.step)))) ↔ IsUp s row column
least_test s row column f is short across few = grind (arith, kept_least, ints)
