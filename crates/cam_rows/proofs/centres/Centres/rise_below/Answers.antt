use Rattle.std.proofs.Common.{◌+◌, arith}
use Rattle.std.proofs.lemmas.Int.{ints}
use Rattle.cam_rows.proofs.WideRows.{top_is_wide}
use Rattle.cam_rows.proofs.centres.Centres.rise_below.Goals as goal

pub wide_below-requires-clause-top : goal.wide_below-requires-clause-top
wide_below-requires-clause-top c = top_is_wide c.args.self.now (c.args.steps + 1) (omega arith) c.requires.rows

pub wide_below-requires-clause-row : goal.wide_below-requires-clause-row
wide_below-requires-clause-row c = c.requires.rows c.args.steps (omega arith)

pub overflow_sub-result : goal.overflow_sub-result
overflow_sub-result c =
    let row = c.requires.rows c.args.steps (omega arith) in
    let place = (row.centres 0 (omega (arith, row.count.0))).y in
    rw c.wide_below.ensures (omega (arith, ints, place, c.requires.point.y))

pub returns : goal.returns
returns c =
    let row = c.requires.rows c.args.steps (omega arith) in
    let place = (row.centres 0 (omega (arith, row.count.0))).y in
    rw c.wide_below.ensures (omega (arith, ints, place, c.requires.point.y))

pub overflow_mul-result : goal.overflow_mul-result
overflow_mul-result c = grind (arith)
