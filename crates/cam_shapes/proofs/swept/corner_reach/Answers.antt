use Rattle.std.proofs.Common.{arith, rules}
use Rattle.cam_shapes.proofs.Sweeps.{part_fits, reach_fits, short_leg, short_side}
use Rattle.cam_shapes.proofs.swept.corner_reach.Goals as goal

pub overflow_add-result : goal.overflow_add-result
overflow_add-result c = grind (arith, reach_fits, short_side, short_leg)

pub overflow_mul-across : goal.overflow_mul-across
overflow_mul-across c =
    part_fits c.unsigned_abs.result c.unsigned_abs-2.result
    (short_side c.unsigned_abs.result c.args.width.0 c.unsigned_abs.ensures.value c.requires.width)
    (short_leg c.unsigned_abs-2.result c.args.way.y c.unsigned_abs-2.ensures.value c.requires.way.y)

pub overflow_mul-along : goal.overflow_mul-along
overflow_mul-along c =
    part_fits c.unsigned_abs-3.result c.unsigned_abs-4.result
    (short_side c.unsigned_abs-3.result c.args.height.0 c.unsigned_abs-3.ensures.value c.requires.height)
    (short_leg c.unsigned_abs-4.result c.args.way.x c.unsigned_abs-4.ensures.value c.requires.way.x)

pub returns : goal.returns
returns c = search rules
