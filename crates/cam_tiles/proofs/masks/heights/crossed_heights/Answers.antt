use Rattle.std.proofs.Common.{arith}
use Rattle.std.proofs.lemmas.Int.{clamps, ints}
use Rattle.cam_tiles.proofs.EdgeSpans.{between_ends}
use Rattle.cam_tiles.proofs.masks.heights.crossed_heights.Goals as goal

pub returns : goal.returns
returns c =
    between_ends c.args.from c.args.to _ (omega (arith, ints, clamps, c.min.ensures.value))
    (omega (arith, ints, clamps, c.max.ensures.value))

pub overflow_mul-result : goal.overflow_mul-result
overflow_mul-result c = omega (arith, ints, clamps, c.min.ensures.value)

pub overflow_mul-result-2 : goal.overflow_mul-result-2
overflow_mul-result-2 c = omega (arith, ints, clamps, c.max.ensures.value)

pub overflow_sub-result : goal.overflow_sub-result
overflow_sub-result c = omega (arith, ints, clamps, c.max.ensures.value)
