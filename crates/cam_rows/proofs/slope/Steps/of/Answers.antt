use Rattle.std.proofs.Common.{rules, arith}
use Rattle.std.proofs.lemmas.Grind.{common_steps}
use Rattle.std.proofs.lemmas.Int.{ints}
use Rattle.cam_rows.proofs.slope.Steps.of.Goals as goal

pub overflow_cast-result : goal.overflow_cast-result
overflow_cast-result c = grind (arith, ints)

pub overflow_cast-result-2 : goal.overflow_cast-result-2
overflow_cast-result-2 c =
    let left = c.floor_division-columns.ensures.rest in
    omega (arith, ints, left.0, left.1, c.is_short.ensures.0 c.if-not-is_short.false)

pub overflow_cast-result-3 : goal.overflow_cast-result-3
overflow_cast-result-3 c = omega (arith, ints, c.is_short.ensures.0 c.if-not-is_short.false)

pub returns : goal.returns
returns c = search rules

pub floor_division-columns-requires-clause-divisor : goal.floor_division-columns-requires-clause-divisor
floor_division-columns-requires-clause-divisor c = grind (arith)

pub floor_division-columns-requires-clause-number : goal.floor_division-columns-requires-clause-number
floor_division-columns-requires-clause-number c = grind (arith, common_steps)
