use Rattle.std.proofs.Common.{arith}
use Rattle.cam_script.proofs.Forms.{no_draw}
use Rattle.cam_script.proofs.items.draw.Goals as goal

pub returns-in_err-from-2 : goal.returns-in_err-from-2
returns-in_err-from-2 c = grind (arith)

pub returns-in_err-aperture : goal.returns-in_err-aperture
returns-in_err-aperture c = grind (arith)

pub returns-in_err-dark : goal.returns-in_err-dark
returns-in_err-dark c = grind (arith)

pub returns-in_err-to : goal.returns-in_err-to
returns-in_err-to c = grind (arith, no_draw)

pub returns-in_err-orientation : goal.returns-in_err-orientation
returns-in_err-orientation c = grind (arith, no_draw)

pub returns-in_err-from : goal.returns-in_err-from
returns-in_err-from c = grind (arith, no_draw)

pub returns-in_err-to-2 : goal.returns-in_err-to-2
returns-in_err-to-2 c = grind (arith)

pub returns-in_err-turn : goal.returns-in_err-turn
returns-in_err-turn c = grind (arith)

pub returns : goal.returns
returns c = grind (arith)
