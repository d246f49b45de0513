use Rattle.std.proofs.Common.{arith}
use Rattle.std.proofs.lemmas.Grind.{common_steps}
use Rattle.cam_macros.proofs.OutlineLemmas.{outline_few, outline_long}
use Rattle.cam_macros.proofs.expansion.shapes.outline_through.Goals as goal

pub returns-then-fields-count : goal.returns-then-fields-count
returns-then-fields-count c = grind (arith, outline_few)

pub returns-in_err-turn : goal.returns-in_err-turn
returns-in_err-turn c = grind (arith, outline_long, common_steps)

pub returns-in_err-points : goal.returns-in_err-points
returns-in_err-points c =
    rw (outline_long c.args.unit c.args.corners.paint c.args.corners.count c.args.fields.now c.if-fields-count.false)
    (grind (arith, common_steps))

pub returns : goal.returns
returns c = grind (arith, outline_long, common_steps)
