use Rattle.std.proofs.Common.{rules, arith}
use Rattle.std.proofs.lemmas.Int.{ints}
use Rattle.cam_rows.proofs.WideRows.{offsets_from, wide_offsets}
use Rattle.cam_rows.proofs.centres.Centres.offsets_from.Goals as goal

pub returns-clause-each : goal.returns-clause-each
returns-clause-each c =
    let start = (c.requires.row.centres 0 (omega (arith, c.requires.row.count))).x in
    offsets_from c.args.self.now c.args.point.now _ _ c.requires.row (omega (arith, ints, start, c.requires.point.x))
    (search rules)

pub returns-clause-wide : goal.returns-clause-wide
returns-clause-wide c =
    let start = (c.requires.row.centres 0 (omega (arith, c.requires.row.count))).x in
    wide_offsets c.args.self.now c.args.point.now _ _ c.requires.row (omega (arith, ints, start, c.requires.point.x))
    (search rules) c.requires.point

pub overflow_mul-result : goal.overflow_mul-result
overflow_mul-result c = grind (arith)

pub overflow_sub-result : goal.overflow_sub-result
overflow_sub-result c = search rules
