use Rattle.std.proofs.Common.{arith}
use Rattle.cam_edits.proofs.FittingEdits.{passes_fits}
use Rattle.cam_edits.proofs.judging.checked.Goals as goal

pub returns-clause-fits : goal.returns-clause-fits
returns-clause-fits c = grind (arith, passes_fits)

pub returns-clause-value : goal.returns-clause-value
returns-clause-value c = grind (arith)
