use Rattle.std.proofs.Common.{arith}
use Rattle.cam_script.proofs.Forms.{no_diameter}
use Rattle.cam_script.proofs.edits.diameter_change.Goals as goal

pub returns-in_err-t-2 : goal.returns-in_err-t-2
returns-in_err-t-2 c = grind (arith)

pub returns-in_err-t : goal.returns-in_err-t
returns-in_err-t c = grind (arith, no_diameter)

pub returns-in_err-d : goal.returns-in_err-d
returns-in_err-d c = grind (arith)

pub returns : goal.returns
returns c = grind (arith)
