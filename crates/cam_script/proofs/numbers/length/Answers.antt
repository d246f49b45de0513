use Rattle.std.proofs.Common.{arith}
use Rattle.std.proofs.lemmas.Grind.{common_steps}
use Rattle.cam_script.proofs.numbers.length.Goals as goal

pub overflow_cast-result-in_default : goal.overflow_cast-result-in_default
overflow_cast-result-in_default c = grind (arith, common_steps)

pub returns-in_err-numeral-in_default : goal.returns-in_err-numeral-in_default
returns-in_err-numeral-in_default c = grind (arith)

pub overflow_sub-result : goal.overflow_sub-result
overflow_sub-result c = grind (arith)

pub overflow_cast-result-in-Some-eq43-default : goal.overflow_cast-result-in-Some-eq43-default
overflow_cast-result-in-Some-eq43-default c = grind (arith)

pub overflow_cast-result : goal.overflow_cast-result
overflow_cast-result c = grind (arith)
