use Rattle.std.proofs.Common.{arith}
use Rattle.std.proofs.lemmas.Grind.{common_steps}
use Rattle.cam_rows.proofs.Quarters.{round_reach}
use Rattle.cam_rows.proofs.obround.reach_at.Goals as goal

pub returns-clause-each : goal.returns-clause-each
returns-clause-each c = λ x.
    round_reach x c.args.over c.args.width c.args.height c.min-radius.result c.saturating_sub-past_straight.result
    c.from.result c.isqrt.result c.min-radius.ensures c.saturating_sub-past_straight.ensures c.from.ensures
    c.requires.low c.isqrt.ensures.square c.isqrt.ensures.greatest

pub returns-clause-short : goal.returns-clause-short
returns-clause-short c = grind (arith, common_steps)

pub returns-then-past_straight-eq0-clause-each : goal.returns-then-past_straight-eq0-clause-each
returns-then-past_straight-eq0-clause-each c = grind (arith)

pub overflow_sub-radius : goal.overflow_sub-radius
overflow_sub-radius c = grind (arith, common_steps)

pub overflow_add-result : goal.overflow_add-result
overflow_add-result c = grind (arith, common_steps)
