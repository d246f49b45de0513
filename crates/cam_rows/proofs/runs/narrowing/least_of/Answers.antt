use Rattle.std.proofs.Common.{arith}
use Rattle.cam_rows.proofs.runs.narrowing.least_of.Goals as goal

pub returns-then-step-lt0-clause-least : goal.returns-then-step-lt0-clause-least
returns-then-step-lt0-clause-least c = grind (arith)

pub returns-else-step-lt0-clause-least : goal.returns-else-step-lt0-clause-least
returns-else-step-lt0-clause-least c = grind (arith)
