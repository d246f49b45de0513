use Rattle.std.proofs.Common.{arith}
use Rattle.cam_objects.proofs.placing.copies.Copies.last.Goals as goal

pub last_step-requires-clause-step : goal.last_step-requires-clause-step
last_step-requires-clause-step c = grind (arith)

pub returns-clause-reach : goal.returns-clause-reach
returns-clause-reach c = grind (arith)

pub last_step-requires-2-clause-count : goal.last_step-requires-2-clause-count
last_step-requires-2-clause-count c = grind (arith)

pub last_step-requires-clause-count : goal.last_step-requires-clause-count
last_step-requires-clause-count c = grind (arith)

pub last_step-requires-2-clause-step : goal.last_step-requires-2-clause-step
last_step-requires-2-clause-step c = grind (arith)
