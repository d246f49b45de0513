use Rattle.std.proofs.Common.{arith}
use Rattle.cam_script.proofs.Forms.{no_flash}
use Rattle.cam_script.proofs.items.flash.Goals as goal

pub returns-in_err-turn : goal.returns-in_err-turn
returns-in_err-turn c = grind (arith)

pub returns-in_err-number : goal.returns-in_err-number
returns-in_err-number c = grind (arith, no_flash)

pub returns-in_err-aperture : goal.returns-in_err-aperture
returns-in_err-aperture c = grind (arith)

pub returns-in_err-dark : goal.returns-in_err-dark
returns-in_err-dark c = grind (arith)

pub returns-in_err-at : goal.returns-in_err-at
returns-in_err-at c = grind (arith)

pub returns : goal.returns
returns c = grind (arith)
