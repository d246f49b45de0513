use Rattle.std.proofs.Common.{arith, sym}
use Rattle.std.proofs.lemmas.Grind.{common_steps}
use Rattle.cam_macros.proofs.FieldLemmas.{bar_short}
use Rattle.cam_macros.proofs.expansion.shapes.bar.Goals as goal

pub returns-in_default : goal.returns-in_default
returns-in_default c = sym (bar_short c.args.unit c.args.fields.now c.in_default.len_below)

pub returns-in_err-paint : goal.returns-in_err-paint
returns-in_err-paint c = grind (arith, common_steps)

pub returns-in_err-turn : goal.returns-in_err-turn
returns-in_err-turn c = grind (arith, common_steps)

pub returns-in_err-width : goal.returns-in_err-width
returns-in_err-width c = grind (arith, common_steps)

pub returns-in_err-from : goal.returns-in_err-from
returns-in_err-from c = grind (arith, common_steps)

pub returns-in_err-to : goal.returns-in_err-to
returns-in_err-to c = grind (arith, common_steps)

pub returns : goal.returns
returns c = grind (arith, common_steps)
