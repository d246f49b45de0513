use Rattle.std.proofs.Common.{arith}
use Rattle.cam_edits.proofs.DrillEdits.{passes_fits}
use Rattle.cam_edits.proofs.drill_judging.checked.Goals as goal

pub returns-clause-fits : goal.returns-clause-fits
returns-clause-fits c = grind (arith, passes_fits)
