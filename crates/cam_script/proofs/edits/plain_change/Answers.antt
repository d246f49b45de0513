use Rattle.std.proofs.Common.{arith}
use Rattle.cam_script.proofs.Forms.{no_delete}
use Rattle.cam_script.proofs.edits.plain_change.Goals as goal

pub returns-in_err-k-2 : goal.returns-in_err-k-2
returns-in_err-k-2 c = grind (arith)

pub returns-in_err-k : goal.returns-in_err-k
returns-in_err-k c = grind (arith, no_delete)

pub returns-in_ok-k-2 : goal.returns-in_ok-k-2
returns-in_ok-k-2 c = grind (arith)

pub returns-then-is-2 : goal.returns-then-is-2
returns-then-is-2 c = grind (arith)

pub returns-then-is-3 : goal.returns-then-is-3
returns-then-is-3 c = grind (arith)

pub returns-else-is-3 : goal.returns-else-is-3
returns-else-is-3 c = grind (arith)
