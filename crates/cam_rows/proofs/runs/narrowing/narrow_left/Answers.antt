use Rattle.std.proofs.Common.{arith, length}
use Rattle.cam_rows.specs.Machinery.HalfPlanes.{IsLeft}
use Rattle.cam_rows.proofs.PassedOn.{kept_reach, passed_reach}
use Rattle.cam_rows.proofs.WideRows.{half_narrowed, top_is_wide}
use Rattle.cam_rows.proofs.runs.narrowing.narrow_left.Goals as goal

pub left-requires-clause-row : goal.left-requires-clause-row
left-requires-clause-row c = top_is_wide c.args.top.now (length c.args.firsts.now) c.requires.some c.requires.rows

pub left-requires-clause-reach : goal.left-requires-clause-reach
left-requires-clause-reach c = passed_reach c.args.reach c.requires.reach

pub narrow-requires-clause-few : goal.narrow-requires-clause-few
narrow-requires-clause-few c = grind (arith, top_is_wide)

pub narrow-requires-clause-short : goal.narrow-requires-clause-short
narrow-requires-clause-short c = c.left.ensures.holds.short _ c.requires.rows

pub returns : goal.returns
returns c =
    half_narrowed _ _ _ _ _ c.args.top.now (IsLeft c.args.from.now c.args.to.now c.args.reach) c.left.result
    (rw (kept_reach c.args.reach c.requires.reach) at c.left.ensures.holds) c.narrow.ensures
