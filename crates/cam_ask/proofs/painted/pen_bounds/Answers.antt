use Rattle.std.proofs.Common.{◌≡◌, ◌≤◌, ℤ, pos, ◌+ℤ◌, ◌-ℤ◌, ◌≤ℤ◌, to_z, of_z, w64, arith, rules}
use Rattle.std.proofs.lemmas.Grind.{common_steps}
use Rattle.std.specs.Int.RustNames.{unsigned_abs}
use Rattle.std.proofs.lemmas.Int.{ints}
use Rattle.cam_apertures.proofs.Corners.{same_box}
use Rattle.cam_ask.proofs.painted.pen_bounds.Goals as goal

less : (z r : ℤ) → pos 0 ≤ℤ r → r ≤ℤ pos 6000000000 → unsigned_abs z ≤ 8000000000
    → to_z w64 (of_z w64 (to_z w64 (of_z w64 z) -ℤ to_z w64 (of_z w64 r))) ≡ z -ℤ r
less z r some few near = omega (arith, ints)

more : (z r : ℤ) → pos 0 ≤ℤ r → r ≤ℤ pos 6000000000 → unsigned_abs z ≤ 8000000000
    → to_z w64 (of_z w64 (to_z w64 (of_z w64 z) +ℤ to_z w64 (of_z w64 r))) ≡ z +ℤ r
more z r some few near = omega (arith, ints)

pub returns : goal.returns
returns c = grind (arith, same_box, less, more)

pub overflow_sub-result : goal.overflow_sub-result
overflow_sub-result c = search rules

pub overflow_add-result : goal.overflow_add-result
overflow_add-result c = grind (arith, common_steps)

pub overflow_add-result-2 : goal.overflow_add-result-2
overflow_add-result-2 c = grind (arith, common_steps)

pub overflow_sub-result-2 : goal.overflow_sub-result-2
overflow_sub-result-2 c = search rules
