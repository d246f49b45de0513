use Rattle.std.proofs.Common.{arith}
use Rattle.cam_script.proofs.Forms.{no_hit}
use Rattle.cam_script.proofs.items.hit.Goals as goal

pub returns-in_err-number : goal.returns-in_err-number
returns-in_err-number c = grind (arith, no_hit)

pub returns : goal.returns
returns c = grind (arith)

pub returns-in_err-tool : goal.returns-in_err-tool
returns-in_err-tool c = grind (arith)

pub returns-in_err-at : goal.returns-in_err-at
returns-in_err-at c = grind (arith)
