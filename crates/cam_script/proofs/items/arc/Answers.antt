use Rattle.std.proofs.Common.{arith}
use Rattle.std.proofs.lemmas.Grind.{common_steps}
use Rattle.cam_script.proofs.Forms.{no_arc}
use Rattle.cam_script.proofs.items.arc.Goals as goal

pub returns-in_err-aperture : goal.returns-in_err-aperture
returns-in_err-aperture c = grind (arith)

pub returns-in_err-sense : goal.returns-in_err-sense
returns-in_err-sense c = grind (arith, no_arc)

pub returns-in_err-to : goal.returns-in_err-to
returns-in_err-to c = grind (arith, no_arc)

pub returns-in_err-to-2 : goal.returns-in_err-to-2
returns-in_err-to-2 c = grind (arith, common_steps)

pub returns-in_err-centre : goal.returns-in_err-centre
returns-in_err-centre c = grind (arith, no_arc)

pub returns-in_err-from-2 : goal.returns-in_err-from-2
returns-in_err-from-2 c = grind (arith)

pub returns-in_err-centre-2 : goal.returns-in_err-centre-2
returns-in_err-centre-2 c = grind (arith)

pub returns : goal.returns
returns c = grind (arith)

pub returns-in_err-from : goal.returns-in_err-from
returns-in_err-from c = grind (arith, no_arc)

pub returns-in_err-dark : goal.returns-in_err-dark
returns-in_err-dark c = grind (arith)

pub returns-in_err-ccw : goal.returns-in_err-ccw
returns-in_err-ccw c = grind (arith)
