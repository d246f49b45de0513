use Rattle.std.proofs.Common.{rules, pos, ◌+ℤ◌, ◌<ℤ◌, ◌≤ℤ◌, arith}
use Rattle.std.proofs.lemmas.Grind.{common_steps}
use Rattle.std.proofs.lemmas.Int.{ints}
use Rattle.cam_rows.proofs.NextCrossings.{columns_kept, minus_kept, near_below, near_past, next_kept, past_kept, rest_kept}
use Rattle.cam_rows.proofs.SlopeParts.{few_whole, next_whole}
use Rattle.cam_rows.proofs.slope.Crossing.below.Goals as goal

pub returns-then-past-steps-clause-lowered : goal.returns-then-past-steps-clause-lowered
returns-then-past-steps-clause-lowered c = search (rules, columns_kept, rest_kept, few_whole)

pub returns-then-past-steps-clause-near : goal.returns-then-past-steps-clause-near
returns-then-past-steps-clause-near c bound here =
    let s = c.args.self in
    let t = c.args.steps.now in
    let short = c.requires.steps.divisor in
    let columns = columns_kept s.columns t.columns c.requires.here.near c.requires.steps.columns in
    let rest = rest_kept s.rest t.rest t.divisor here.low here.high short c.requires.steps.rest in
    let past = past_kept s.rest t.rest t.divisor here.low here.high short c.requires.steps.rest in
    let minus = minus_kept t.divisor short in
    let less : (s.rest +ℤ t.rest) <ℤ pos 0 = omega (arith, ints, past, minus, c.if-past-steps.true) in
    rw (columns, rest) (near_below t s bound c.requires.steps here less)

pub returns-clause-lowered : goal.returns-clause-lowered
returns-clause-lowered c = grind (arith, next_kept, past_kept, next_whole, few_whole)

pub returns-clause-near : goal.returns-clause-near
returns-clause-near c bound here =
    let s = c.args.self in
    let t = c.args.steps.now in
    let short = c.requires.steps.divisor in
    let columns = next_kept s.columns t.columns c.requires.here.near c.requires.steps.columns in
    let past = past_kept s.rest t.rest t.divisor here.low here.high short c.requires.steps.rest in
    let minus = minus_kept t.divisor short in
    let more : pos 0 ≤ℤ (s.rest +ℤ t.rest) = omega (arith, ints, past, minus, c.if-past-steps.false) in
    rw (columns, past) (near_past t s bound c.requires.steps here more)

pub overflow_sub-past-2 : goal.overflow_sub-past-2
overflow_sub-past-2 c = grind (arith, common_steps)

pub overflow_add-rest : goal.overflow_add-rest
overflow_add-rest c = grind (arith, common_steps)

pub overflow_sub-steps : goal.overflow_sub-steps
overflow_sub-steps c = grind (arith, common_steps)

pub overflow_sub-past : goal.overflow_sub-past
overflow_sub-past c = grind (arith, common_steps)

pub overflow_add-result : goal.overflow_add-result
overflow_add-result c = grind (arith, common_steps)
