use Rattle.std.proofs.Common.{arith, rules}
use Rattle.cam_shapes.proofs.edge.is_above.Goals as goal

pub returns : goal.returns
returns c = search rules

pub overflow_mul-result : goal.overflow_mul-result
overflow_mul-result c = grind (arith)
