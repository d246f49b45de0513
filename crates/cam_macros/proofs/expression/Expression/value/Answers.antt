use Rattle.std.proofs.Common.{arith}
use Rattle.cam_macros.proofs.Evaluation.{worth_is}
use Rattle.cam_macros.proofs.expression.Expression.value.Goals as goal

pub returns-clause-ok : goal.returns-clause-ok
returns-clause-ok c = grind (arith, worth_is)

pub returns-clause-fault : goal.returns-clause-fault
returns-clause-fault c = grind (arith, worth_is)
