-- How far the centres of rows lie to the side of a point.
use Rattle.std.proofs.Common.{◌≡◌, ◌<◌, ◌≤◌, ℕ, ℤ, pos, ◌+ℤ◌, ◌-ℤ◌, ◌*ℤ◌, ◌≤ℤ◌, arith}
use Rattle.std.specs.Int.RustNames.{unsigned_abs}
use Rattle.std.proofs.lemmas.Int.{ints}
use Rattle.std.proofs.lemmas.Nat.{mul-le}
use Rattle.cam_units.specs.Board.{place_limit}
use Rattle.cam_rows.specs.Machinery.Chords.{AreShort, offset}

-- how far centres lie from a point
pub offset_is : (x step middle first pitch : ℤ) (i : ℕ) → first ≡ x -ℤ middle → pitch ≡ step
    → offset first pitch i ≡ (x +ℤ pos i *ℤ step) -ℤ middle
offset_is x step middle first pitch i e f = rw (e, f) (omega (arith, ints))

pub offset_short : (x step middle first pitch : ℤ) (i : ℕ) → first ≡ x -ℤ middle → pitch ≡ step
    → unsigned_abs middle < place_limit → unsigned_abs x < 4000000000 → unsigned_abs (x +ℤ pos i *ℤ step) < 4000000000
    → AreShort first pitch i
offset_short x step middle first pitch i e f h k l = grind (arith, offset_is, ints)

-- a later centre lies farther to the right
pub goes_right : (first step : ℤ) (i j : ℕ) → pos 1 ≤ℤ step → i ≤ j → offset first step i ≤ℤ offset first step j
goes_right first step i j h k = grind (arith, ints, mul-le)
