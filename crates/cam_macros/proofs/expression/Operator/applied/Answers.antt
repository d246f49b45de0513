use Rattle.std.proofs.Common.{◌≤◌, ◌^◌, arith, rules}
use Rattle.std.proofs.lemmas.Int.{to_z-of_z}
use Rattle.std.specs.Prelude.{unsigned_abs}
use Rattle.cam_macros.proofs.WidthLemmas.{product_bound, product_kept, short}
use Rattle.cam_macros.proofs.expression.Operator.applied.Goals as goal
use Rattle.cam_macros.proofs.expression.Operator.applied.Goals.{In-Multiply}

left : (c : In-Multiply) → unsigned_abs c.from-above.result ≤ 2 ^ 63
left c = short c.from-above.result c.args.left.billionths c.from-above.ensures

right : (c : In-Multiply) → unsigned_abs c.from-below.result ≤ 2 ^ 63
right c = short c.from-below.result c.args.right.billionths c.from-below.ensures

pub nearest-requires : goal.nearest-requires
nearest-requires c = grind (arith, left, right, short, product_kept, product_bound)

pub returns-in-Multiply : goal.returns-in-Multiply
returns-in-Multiply c = grind (arith, left, right, product_kept, to_z-of_z)

pub returns-in-Subtract : goal.returns-in-Subtract
returns-in-Subtract c = search rules

pub overflow_mul-above : goal.overflow_mul-above
overflow_mul-above c = search rules

pub overflow_sub-result : goal.overflow_sub-result
overflow_sub-result c = search rules

pub returns-in-Add : goal.returns-in-Add
returns-in-Add c = search rules

pub overflow_add-result : goal.overflow_add-result
overflow_add-result c = search rules
