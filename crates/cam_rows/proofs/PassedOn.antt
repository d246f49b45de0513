-- Rows and numbers, as they are passed to another function.
use Rattle.std.proofs.Common.{◌≡◌, ℕ, ◌^◌, ◌<◌, Bool, true, false, List, length, ℤ, pos, ◌<ℤ◌, of_z, w64, arith}
use Rattle.std.specs.Bool.{◌==◌}
use Rattle.std.specs.Int.RustNames.{unsigned_abs}
use Rattle.std.proofs.lemmas.Bool.Decides.{nat_tests}
use Rattle.std.proofs.lemmas.Int.{ints}
use Rattle.cam_refusals.specs.Limits.{board_limit}
use Rattle.cam_units.specs.Board.{IsSize}
use Rattle.cam_units.specs.declared.point.Spot.{Spot}
use Rattle.cam_shapes.proofs.Widths.{narrow, wide}
use Rattle.cam_rows.specs.declared.centres.Centres.{Centres}
use Rattle.cam_rows.specs.Runs.{AreRuns}

-- whether there are rows, by a test
pub no_rows : (n : ℕ) (b : Bool) → b ≡ (n == 0) → b ≡ true → n ≡ 0
no_rows n b e f = grind (arith, nat_tests)

pub some_rows : (n : ℕ) (b : Bool) → b ≡ (n == 0) → b ≡ false → 0 < n
some_rows n b e f = grind (arith, nat_tests)

pub runs_of_none : (firsts ends : List ℕ) (top : Centres) (IsIn : Spot → Type 0) → length firsts ≡ 0
    → AreRuns firsts ends top IsIn
runs_of_none firsts ends top IsIn none = grind arith

-- coordinates and sides, by the tests of their bits
pub same_by_bits : (p q : ℤ) → unsigned_abs p < board_limit → unsigned_abs q < board_limit → of_z w64 p ≡ of_z w64 q → p ≡ q
same_by_bits p q h k e = omega (arith, ints)

pub some_by_bits : (z : ℤ) → IsSize z → (of_z w64 z ≡ 0 → ⊥) → pos 0 <ℤ z
some_by_bits z h some = omega (arith, ints, h.0, h.1)

pub none_by_bits : (z : ℤ) → IsSize z → of_z w64 z ≡ 0 → pos 0 <ℤ z → ⊥
none_by_bits z h none some = omega (arith, ints, h.0, h.1)

-- short numbers, as they are passed on
pub kept_size : (z : ℤ) → IsSize z → narrow z ≡ z
kept_size z h = omega (arith, ints, h.0, h.1)

pub passed_size : (z : ℤ) → IsSize z → IsSize (narrow z)
passed_size z h = (omega (arith, ints, h.0, h.1), omega (arith, ints, h.0, h.1))

pub kept_reach : (z : ℤ) → unsigned_abs z < 2 ^ 64 → wide z ≡ z
kept_reach z h = omega (arith, ints)

pub passed_reach : (z : ℤ) → unsigned_abs z < 2 ^ 64 → unsigned_abs (wide z) < 2 ^ 64
passed_reach z h = omega (arith, ints)
