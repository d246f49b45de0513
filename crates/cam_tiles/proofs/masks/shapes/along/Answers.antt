use Rattle.std.proofs.Common.{arith}
use Rattle.std.proofs.lemmas.Int.{ints, clamps}
use Rattle.cam_tiles.proofs.masks.shapes.along.Goals as goal

pub overflow_mul-result : goal.overflow_mul-result
overflow_mul-result c = omega (arith, ints, clamps, c.min.ensures.value)

pub overflow_mul-result-2 : goal.overflow_mul-result-2
overflow_mul-result-2 c = omega (arith, ints, clamps, c.max.ensures.value)

pub overflow_sub-result : goal.overflow_sub-result
overflow_sub-result c = omega (arith, ints, clamps, c.min.ensures.value)

pub overflow_add-result : goal.overflow_add-result
overflow_add-result c = omega (arith, ints, clamps, c.max.ensures.value)

pub returns : goal.returns
returns c = record {
  low = omega (arith, ints, clamps, c.min.ensures.value);
  high = omega (arith, ints, clamps, c.max.ensures.value);
}
