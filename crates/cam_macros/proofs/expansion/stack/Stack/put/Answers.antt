use Rattle.std.proofs.Common.{rules}
use Rattle.cam_macros.proofs.Evaluation.{stack_of_push}
use Rattle.cam_macros.proofs.expansion.stack.Stack.put.Goals as goal

pub returns-clause-ok : goal.returns-clause-ok
returns-clause-ok c = search (rules, stack_of_push)
