use Rattle.std.proofs.Common.{arith}
use Rattle.cam_script.proofs.Forms.{no_redraw}
use Rattle.cam_script.proofs.parse.redraw.Goals as goal

pub returns-in_err-at_most : goal.returns-in_err-at_most
returns-in_err-at_most c = grind (arith, no_redraw)

pub returns-in_err-at_most-2 : goal.returns-in_err-at_most-2
returns-in_err-at_most-2 c = grind (arith)

pub returns : goal.returns
returns c = grind (arith)
