use Rattle.std.proofs.Common.{arith}
use Rattle.std.proofs.lemmas.Grind.{common_steps}
use Rattle.std.proofs.lemmas.Int.{ints}
use Rattle.cam_rows.proofs.ShortSlopes.{divided_top}
use Rattle.cam_rows.proofs.slope.Steps.crossing.Goals as goal

pub floor_division-last-requires-clause-number : goal.floor_division-last-requires-clause-number
floor_division-last-requires-clause-number c = omega (arith, ints, c.requires.number)

pub overflow_cast-result : goal.overflow_cast-result
overflow_cast-result c = omega (arith, ints, c.is_short.ensures.0 c.if-not-is_short.false)

pub overflow_add-result : goal.overflow_add-result
overflow_add-result c = omega (arith, ints, c.is_short.ensures.0 c.if-not-is_short.false)

pub returns : goal.returns
returns c =
    let last = c.floor_division-last in
    divided_top c.args.self.now last.result.0 last.result.1 c.args.number c.from.result c.requires.steps.divisor
    c.from.ensures c.requires.number last.ensures.whole last.ensures.rest
    (c.is_short.ensures.0 c.if-not-is_short.false)

pub overflow_sub-result : goal.overflow_sub-result
overflow_sub-result c =
    let d = c.requires.steps.divisor in
    let left = c.floor_division-last.ensures.rest in
    omega (arith, ints, c.from.ensures, d.0, d.1, left.0, left.1)

pub floor_division-last-requires-clause-divisor : goal.floor_division-last-requires-clause-divisor
floor_division-last-requires-clause-divisor c = grind (arith, common_steps)

pub overflow_cast-result-2 : goal.overflow_cast-result-2
overflow_cast-result-2 c = grind (arith, common_steps)
