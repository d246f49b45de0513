use Rattle.std.proofs.Common.{arith}
use Rattle.std.proofs.lemmas.Grind.{common_steps}
use Rattle.cam_undo.proofs.history.History.abort.Goals as goal

pub returns-clause-tied : goal.returns-clause-tied
returns-clause-tied c = grind (arith)

pub invariant_of-self : goal.invariant_of-self
invariant_of-self c = grind (arith)

pub returns-clause-answers : goal.returns-clause-answers
returns-clause-answers c = grind (arith)

pub returns-in_default-clause-fault : goal.returns-in_default-clause-fault
returns-in_default-clause-fault c = grind (arith)

pub returns-clause-allowed : goal.returns-clause-allowed
returns-clause-allowed c = grind (arith)

pub returns-clause-kept : goal.returns-clause-kept
returns-clause-kept c = grind (arith, common_steps)

pub returns-clause-aborted : goal.returns-clause-aborted
returns-clause-aborted c = grind (arith)
