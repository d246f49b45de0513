use Rattle.std.proofs.Common.{arith}
use Rattle.std.proofs.lemmas.Grind.{common_steps}
use Rattle.cam_macros.proofs.FieldLemmas.{outline_short}
use Rattle.cam_macros.proofs.expansion.shapes.outline.Goals as goal

pub returns-in_default : goal.returns-in_default
returns-in_default c = record { ok = tt; fault = outline_short c.args.unit c.args.fields.now c.in_default.len_below }

pub returns-in_err-paint : goal.returns-in_err-paint
returns-in_err-paint c = grind (arith, common_steps)

pub returns-in_err-count : goal.returns-in_err-count
returns-in_err-count c = grind (arith, common_steps)

pub returns : goal.returns
returns c = grind (arith, common_steps)
