use Rattle.std.proofs.Common.{arith, rules}
use Rattle.cam_rows.proofs.edge.is_above.Goals as goal

pub overflow_mul-result : goal.overflow_mul-result
overflow_mul-result c = grind (arith)

pub returns : goal.returns
returns c = search rules
