use Rattle.std.proofs.Common.{arith, rules}
use Rattle.std.proofs.lemmas.Grind.{common_steps}
use Rattle.std.proofs.lemmas.Int.{ints}
use Rattle.cam_rows.proofs.RowsBelow.{above_by_division, top_near}
use Rattle.cam_rows.proofs.centres.Centres.rows_above.Goals as goal

pub returns-clause-each : goal.returns-clause-each
returns-clause-each c = λ k within.
    let row = c.args.self.now in
    let high = top_near row c.requires.row in
    above_by_division row.y c.args.height row.step k _ _ c.min.result c.args.rows c.requires.row.step
    (omega (arith, ints, c.requires.row.step))
    (omega (arith, ints, high, c.requires.short, c.if-fall-lt0.false)) c.min.ensures within

pub overflow_cast-self : goal.overflow_cast-self
overflow_cast-self c = grind (arith, common_steps)

pub overflow_cast-fall : goal.overflow_cast-fall
overflow_cast-fall c = grind (arith, common_steps)

pub overflow_add-fall : goal.overflow_add-fall
overflow_add-fall c = grind (arith, common_steps)

pub nonzero_div-fall : goal.nonzero_div-fall
nonzero_div-fall c = grind (arith)

pub returns-then-fall-lt0-clause-each : goal.returns-then-fall-lt0-clause-each
returns-then-fall-lt0-clause-each c = grind (arith, common_steps)

pub overflow_sub-fall : goal.overflow_sub-fall
overflow_sub-fall c = search rules
