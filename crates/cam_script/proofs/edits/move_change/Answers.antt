use Rattle.std.proofs.Common.{arith}
use Rattle.cam_script.proofs.Forms.{no_move}
use Rattle.cam_script.proofs.edits.move_change.Goals as goal

pub returns-in_err-dy : goal.returns-in_err-dy
returns-in_err-dy c = grind (arith)

pub returns-in_err-dx : goal.returns-in_err-dx
returns-in_err-dx c = grind (arith)

pub returns-in_err-k : goal.returns-in_err-k
returns-in_err-k c = grind (arith, no_move)

pub returns-in_err-k-2 : goal.returns-in_err-k-2
returns-in_err-k-2 c = grind (arith)
