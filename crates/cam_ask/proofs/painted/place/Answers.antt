use Rattle.std.proofs.Common.{arith, rules}
use Rattle.cam_ask.proofs.painted.place.Goals as goal

pub returns-clause-y : goal.returns-clause-y
returns-clause-y c = grind (arith)

pub returns-clause-x : goal.returns-clause-x
returns-clause-x c = grind (arith)

pub returns-clause-value : goal.returns-clause-value
returns-clause-value c = search rules

pub overflow_mul-result : goal.overflow_mul-result
overflow_mul-result c = grind (arith)

pub overflow_mul-result-2 : goal.overflow_mul-result-2
overflow_mul-result-2 c = grind (arith)
