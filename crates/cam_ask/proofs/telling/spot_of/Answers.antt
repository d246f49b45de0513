use Rattle.std.proofs.Common.{arith, rules}
use Rattle.std.proofs.lemmas.Grind.{common_steps}
use Rattle.cam_ask.proofs.telling.spot_of.Goals as goal

pub returns : goal.returns
returns c = search rules

pub overflow_mul-result : goal.overflow_mul-result
overflow_mul-result c = grind (arith)

pub overflow_mul-result-2 : goal.overflow_mul-result-2
overflow_mul-result-2 c = grind (arith, common_steps)
