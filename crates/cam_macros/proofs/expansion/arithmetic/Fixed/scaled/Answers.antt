use Rattle.std.proofs.Common.{arith, rules}
use Rattle.std.proofs.lemmas.Grind.{common_steps}
use Rattle.cam_macros.proofs.expansion.arithmetic.Fixed.scaled.Goals as goal

pub returns-clause-short : goal.returns-clause-short
returns-clause-short c = search rules

pub overflow_mul-result : goal.overflow_mul-result
overflow_mul-result c = grind (arith, common_steps)

pub returns-clause-value : goal.returns-clause-value
returns-clause-value c = search rules
