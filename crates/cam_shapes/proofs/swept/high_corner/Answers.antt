use Rattle.std.proofs.Common.{rules, arith}
use Rattle.std.proofs.lemmas.Grind.{common_steps}
use Rattle.cam_shapes.proofs.Sweeps.{high_fits, kept_high, same_spot}
use Rattle.cam_shapes.proofs.swept.high_corner.Goals as goal

pub overflow_add-result : goal.overflow_add-result
overflow_add-result c =
    high_fits c.args.swept.from.x c.args.swept.to.x c.max.result c.args.swept.width.0 c.requires.from.x c.requires.to.x
    c.requires.width c.max.ensures.value

pub overflow_add-result-2 : goal.overflow_add-result-2
overflow_add-result-2 c =
    high_fits c.args.swept.from.y c.args.swept.to.y c.max-2.result c.args.swept.height.0 c.requires.from.y c.requires.to.y
    c.requires.height c.max-2.ensures.value

pub returns : goal.returns
returns c = search (rules, same_spot, kept_high)

pub overflow_mul-to : goal.overflow_mul-to
overflow_mul-to c = grind (arith)

pub overflow_mul-to-2 : goal.overflow_mul-to-2
overflow_mul-to-2 c = grind (arith, common_steps)

pub overflow_mul-from-2 : goal.overflow_mul-from-2
overflow_mul-from-2 c = grind (arith, common_steps)
