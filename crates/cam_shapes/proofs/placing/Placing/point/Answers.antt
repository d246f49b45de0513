use Rattle.std.proofs.Common.{arith}
use Rattle.cam_shapes.proofs.Places.{kept_sum, sum_fits, turnable}
use Rattle.cam_shapes.proofs.placing.Placing.point.Goals as goal

pub apply-turned-requires : goal.apply-turned-requires
apply-turned-requires c = turnable c.args.point c.requires.point

pub overflow_add-result : goal.overflow_add-result
overflow_add-result c = grind (arith, sum_fits)

pub overflow_add-result-2 : goal.overflow_add-result-2
overflow_add-result-2 c = grind (arith, sum_fits)

pub returns : goal.returns
returns c = grind (arith, kept_sum)
