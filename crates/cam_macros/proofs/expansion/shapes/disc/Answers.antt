use Rattle.std.proofs.Common.{arith, sym}
use Rattle.std.proofs.lemmas.Grind.{common_steps}
use Rattle.cam_macros.proofs.FieldLemmas.{disc_short}
use Rattle.cam_macros.proofs.expansion.shapes.disc.Goals as goal

pub returns-in_default : goal.returns-in_default
returns-in_default c = sym (disc_short c.args.unit c.args.fields.now c.in_default.len_below)

pub returns-in_err-paint : goal.returns-in_err-paint
returns-in_err-paint c = grind (arith, common_steps)

pub returns-in_err-turn : goal.returns-in_err-turn
returns-in_err-turn c = grind (arith, common_steps)

pub returns-in_err-diameter : goal.returns-in_err-diameter
returns-in_err-diameter c = grind (arith, common_steps)

pub returns-in_err-centre : goal.returns-in_err-centre
returns-in_err-centre c = grind (arith, common_steps)

pub returns : goal.returns
returns c = grind (arith, common_steps)
