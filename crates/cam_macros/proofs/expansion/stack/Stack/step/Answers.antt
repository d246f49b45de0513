use Rattle.std.proofs.Common.{arith, rules}
use Rattle.std.proofs.lemmas.Grind.{common_steps}
use Rattle.cam_macros.proofs.expansion.stack.Stack.step.Goals as goal

pub returns-in-Read-clause-fault : goal.returns-in-Read-clause-fault
returns-in-Read-clause-fault c = search rules

pub returns-in-Some-clause-fault : goal.returns-in-Some-clause-fault
returns-in-Some-clause-fault c = search rules

pub returns-in-Push-clause-fault : goal.returns-in-Push-clause-fault
returns-in-Push-clause-fault c = grind (arith, common_steps)

pub returns-in-Some-applied-clause-ok : goal.returns-in-Some-applied-clause-ok
returns-in-Some-applied-clause-ok c = grind (arith)

pub returns-in-Some-applied-clause-fault : goal.returns-in-Some-applied-clause-fault
returns-in-Some-applied-clause-fault c = grind (arith)

pub overflow_sub-from : goal.overflow_sub-from
overflow_sub-from c = grind (arith)

pub returns-in-Push-clause-ok : goal.returns-in-Push-clause-ok
returns-in-Push-clause-ok c = grind (arith)

pub returns-in-Some-clause-ok : goal.returns-in-Some-clause-ok
returns-in-Some-clause-ok c = search rules
