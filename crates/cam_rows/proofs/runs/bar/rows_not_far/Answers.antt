use Rattle.std.proofs.Common.{arith, rules}
use Rattle.std.proofs.lemmas.Grind.{common_steps}
use Rattle.std.proofs.lemmas.Int.{ints}
use Rattle.cam_rows.specs.Rows.{first_centre, row_below}
use Rattle.cam_rows.proofs.FarPlaces.{run_down, run_up}
use Rattle.cam_rows.proofs.runs.bar.rows_not_far.Goals as goal

pub returns-then-from-to-clause-each : goal.returns-then-from-to-clause-each
returns-then-from-to-clause-each c = λ k within.
    run_up c.args.from.now c.args.to.now (first_centre (row_below c.args.top.now k)) c.args.width _ k c.rows_above.result
    c.args.rows (omega (arith, ints, c.if-from-to.true, c.requires.from.y, c.requires.to.y))
    (omega (arith, ints, c.requires.from.y, c.requires.width)) within (c.rows_above.ensures.each k within)

pub returns-then-from-to-2-clause-each : goal.returns-then-from-to-2-clause-each
returns-then-from-to-2-clause-each c = λ k within.
    run_down c.args.from.now c.args.to.now (first_centre (row_below c.args.top.now k)) c.args.width _ k
    c.rows_above-then-from-to-2.result
    (omega (arith, ints, c.if-from-to-2.true, c.requires.from.y, c.requires.to.y))
    (omega (arith, ints, c.requires.from.y, c.requires.width)) (c.rows_above-then-from-to-2.ensures.each k within)

pub overflow_mul-start : goal.overflow_mul-start
overflow_mul-start c = grind (arith)

pub rows_above-requires-clause-row : goal.rows_above-requires-clause-row
rows_above-requires-clause-row c = grind (arith, common_steps)

pub overflow_add-start-then-from-to-2 : goal.overflow_add-start-then-from-to-2
overflow_add-start-then-from-to-2 c = search rules

pub returns-clause-each : goal.returns-clause-each
returns-clause-each c = grind (arith, common_steps)

pub overflow_add-start : goal.overflow_add-start
overflow_add-start c = search rules

pub rows_above-requires-then-from-to-2-clause-row : goal.rows_above-requires-then-from-to-2-clause-row
rows_above-requires-then-from-to-2-clause-row c = grind (arith, common_steps)

pub rows_above-requires-clause-short : goal.rows_above-requires-clause-short
rows_above-requires-clause-short c = search rules

pub overflow_sub-start : goal.overflow_sub-start
overflow_sub-start c = search rules
