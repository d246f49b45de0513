use Rattle.std.proofs.Common.{arith, rules}
use Rattle.std.proofs.lemmas.Grind.{common_steps}
use Rattle.cam_ask.proofs.painted.moved.Goals as goal

pub returns-clause-x : goal.returns-clause-x
returns-clause-x c = search rules

pub overflow_add-result-2 : goal.overflow_add-result-2
overflow_add-result-2 c = grind (arith, common_steps)

pub returns-clause-y : goal.returns-clause-y
returns-clause-y c = search rules

pub overflow_add-result : goal.overflow_add-result
overflow_add-result c = grind (arith, common_steps)
