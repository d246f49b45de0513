use Rattle.std.proofs.Common.{arith}
use Rattle.cam_macros.proofs.ExpressionLemmas.{kept_expressions}
use Rattle.cam_macros.proofs.expression.Expression.parse.Goals as goal

pub returns-in_err-steps-clause-fault : goal.returns-in_err-steps-clause-fault
returns-in_err-steps-clause-fault c = grind (arith, kept_expressions)

pub returns-clause-ok : goal.returns-clause-ok
returns-clause-ok c = grind (arith, kept_expressions)

pub invariant_of-result : goal.invariant_of-result
invariant_of-result c = grind (arith, kept_expressions)
