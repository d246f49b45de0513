use Rattle.std.proofs.Common.{◌<◌, ◌^◌, arith, ℤ, rules}
use Rattle.std.proofs.lemmas.Grind.{common_steps}
use Rattle.std.specs.Int.RustNames.{unsigned_abs}
use Rattle.cam_shapes.proofs.Sweeps.{reach_fits, short_leg, short_side}
use Rattle.cam_objects.proofs.boxes.lines.corner_reach.Goals as goal

short : (z : ℤ) → unsigned_abs z < 4000000000 → unsigned_abs z < 2 ^ 33
short z h = omega arith

pub overflow_add-result : goal.overflow_add-result
overflow_add-result c = grind (arith, reach_fits, short_side, short_leg, short)

pub overflow_mul-across : goal.overflow_mul-across
overflow_mul-across c = search rules

pub returns : goal.returns
returns c = search rules

pub overflow_mul-along : goal.overflow_mul-along
overflow_mul-along c = grind (arith, common_steps)
