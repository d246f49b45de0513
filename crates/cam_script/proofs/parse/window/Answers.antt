use Rattle.std.proofs.Common.{arith}
use Rattle.cam_script.proofs.Forms.{no_window}
use Rattle.cam_script.proofs.parse.window.Goals as goal

pub returns-in_err-x-2 : goal.returns-in_err-x-2
returns-in_err-x-2 c = grind (arith)

pub returns-in_err-height : goal.returns-in_err-height
returns-in_err-height c = grind (arith)

pub returns-in_err-y : goal.returns-in_err-y
returns-in_err-y c = grind (arith)

pub returns-in_err-x : goal.returns-in_err-x
returns-in_err-x c = grind (arith, no_window)

pub returns-in_err-pitch : goal.returns-in_err-pitch
returns-in_err-pitch c = grind (arith)

pub returns-in_err-width : goal.returns-in_err-width
returns-in_err-width c = grind (arith)
