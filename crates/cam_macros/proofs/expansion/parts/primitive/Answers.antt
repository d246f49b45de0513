use Rattle.std.proofs.Common.{arith}
use Rattle.std.proofs.lemmas.Grind.{common_steps}
use Rattle.cam_macros.proofs.expansion.parts.primitive.Goals as goal

pub returns-in-4-clause-fault : goal.returns-in-4-clause-fault
returns-in-4-clause-fault c = grind (arith)

pub returns-in-1-code-clause-fault : goal.returns-in-1-code-clause-fault
returns-in-1-code-clause-fault c = grind (arith)

pub returns-in-21-clause-ok : goal.returns-in-21-clause-ok
returns-in-21-clause-ok c = grind (arith)

pub returns-clause-ok : goal.returns-clause-ok
returns-clause-ok c = grind (arith, common_steps)

pub returns-clause-fault : goal.returns-clause-fault
returns-clause-fault c = grind (arith, common_steps)

pub returns-in-21-clause-fault : goal.returns-in-21-clause-fault
returns-in-21-clause-fault c = grind (arith)

pub returns-in-1-code-clause-ok : goal.returns-in-1-code-clause-ok
returns-in-1-code-clause-ok c = grind (arith)

pub returns-in_err-values-clause-fault : goal.returns-in_err-values-clause-fault
returns-in_err-values-clause-fault c = grind (arith, common_steps)

pub returns-in-4-clause-ok : goal.returns-in-4-clause-ok
returns-in-4-clause-ok c = grind (arith)
