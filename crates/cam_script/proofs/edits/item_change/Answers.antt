use Rattle.std.proofs.Common.{arith}
use Rattle.cam_script.proofs.Forms.{no_item}
use Rattle.cam_script.proofs.edits.item_change.Goals as goal

pub returns-in_err-k : goal.returns-in_err-k
returns-in_err-k c = grind (arith, no_item)

pub returns-in_ok-n : goal.returns-in_ok-n
returns-in_ok-n c = grind (arith)

pub returns-in_err-dark : goal.returns-in_err-dark
returns-in_err-dark c = grind (arith)

pub returns-in_err-n : goal.returns-in_err-n
returns-in_err-n c = grind (arith)

pub returns-else-is-4 : goal.returns-else-is-4
returns-else-is-4 c = grind (arith)

pub returns-in_err-m : goal.returns-in_err-m
returns-in_err-m c = grind (arith)

pub returns-in_ok-dark : goal.returns-in_ok-dark
returns-in_ok-dark c = grind (arith)

pub returns-in_err-t : goal.returns-in_err-t
returns-in_err-t c = grind (arith)

pub returns-in_err-k-2 : goal.returns-in_err-k-2
returns-in_err-k-2 c = grind (arith)

pub returns-in_ok-t : goal.returns-in_ok-t
returns-in_ok-t c = grind (arith)

pub returns-in_ok-m : goal.returns-in_ok-m
returns-in_ok-m c = grind (arith)
