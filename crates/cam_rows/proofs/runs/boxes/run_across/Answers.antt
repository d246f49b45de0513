use Rattle.std.proofs.Common.{arith}
use Rattle.std.proofs.lemmas.Grind.{common_steps}
use Rattle.cam_rows.proofs.runs.boxes.run_across.Goals as goal

pub returns-clause-each : goal.returns-clause-each
returns-clause-each c = grind (arith)

pub returns-then-high-height-clause-each : goal.returns-then-high-height-clause-each
returns-then-high-height-clause-each c = grind (arith, common_steps)
