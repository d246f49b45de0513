use Rattle.std.proofs.Common.{arith}
use Rattle.std.proofs.lemmas.Grind.{common_steps}
use Rattle.cam_tiles.proofs.shown.Shown.len.Goals as goal

pub returns-in-Drill-clause-count : goal.returns-in-Drill-clause-count
returns-in-Drill-clause-count c = grind (arith, common_steps)

pub returns-in-Drill-clause-few : goal.returns-in-Drill-clause-few
returns-in-Drill-clause-few c = grind (arith)

pub returns-in-Gerber-clause-few : goal.returns-in-Gerber-clause-few
returns-in-Gerber-clause-few c = grind (arith)

pub returns-in-Gerber-clause-count : goal.returns-in-Gerber-clause-count
returns-in-Gerber-clause-count c = grind (arith, common_steps)
