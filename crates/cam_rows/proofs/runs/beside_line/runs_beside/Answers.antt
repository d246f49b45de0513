use Rattle.std.proofs.Common.{length, refl, ◌∙◌, arith}
use Rattle.cam_shapes.specs.Plane.{cross, seen_from, way}
use Rattle.cam_rows.specs.Machinery.HalfPlanes.{IsLeft}
use Rattle.cam_rows.specs.Machinery.Beside.{IsWithinReach}
use Rattle.cam_rows.proofs.BesideWays.{near_line}
use Rattle.cam_rows.proofs.PassedOn.{kept_reach, passed_reach}
use Rattle.cam_rows.proofs.Strips.{strip_runs}
use Rattle.cam_rows.proofs.SweepRows.{no_more}
use Rattle.cam_rows.proofs.WideRows.{IsAny, runs_like, runs_kept, top_is_wide, whole_runs}
use Rattle.cam_rows.proofs.runs.beside_line.runs_beside.Goals as goal

pub left-requires-clause-row : goal.left-requires-clause-row
left-requires-clause-row c = top_is_wide c.args.top.now (length c.args.firsts.now) c.requires.some c.requires.rows

pub strip-requires-clause-plane : goal.strip-requires-clause-plane
strip-requires-clause-plane c = (c.left.ensures.holds.short _ c.requires.rows).plane

pub strip-requires-clause-reach : goal.strip-requires-clause-reach
strip-requires-clause-reach c = passed_reach c.args.reach c.requires.reach

pub count_both-requires-clause-rows : goal.count_both-requires-clause-rows
count_both-requires-clause-rows c = c.in-Some.ensures.few

pub returns-in-Some : goal.returns-in-Some
returns-in-Some c =
    let from = c.args.from.now in
    let to = c.args.to.now in
    strip_runs c.count_both.new.firsts c.count_both.new.ends (length c.args.firsts.now) c.args.top.now
    c.left.result c.in-Some.low c.in-Some.high c.in-Some.steps c.args.reach (λ s. cross (way from to) (seen_from from s))
    (λ k i. c.left.ensures.numbers k i ∙ no_more _) (rw (kept_reach c.args.reach c.requires.reach) at c.in-Some.ensures)
    c.count_both.auto.firsts c.count_both.ensures.firsts c.count_both.ensures.ends

pub narrow_left-requires-clause-reach : goal.narrow_left-requires-clause-reach
narrow_left-requires-clause-reach c = passed_reach c.args.reach c.requires.reach

pub narrow_left-requires-in-None-clause-reach : goal.narrow_left-requires-in-None-clause-reach
narrow_left-requires-in-None-clause-reach c = passed_reach c.args.reach c.requires.reach

pub returns-in-None : goal.returns-in-None
returns-in-None c =
    let from = c.args.from.now in
    let to = c.args.to.now in
    let top = c.args.top.now in
    let first = c.narrow_left.new in
    let second = c.narrow_left-in-None.new in
    let same = kept_reach c.args.reach c.requires.reach in
    let all = whole_runs c.fill.new.self c.fill-in-None.new.self top
    (λ k within. c.fill.ensures.clones k 0 (rw c.fill.ensures.len at within) refl)
    (λ k within. c.fill-in-None.ensures.clones k 0 (omega (arith, within, c.fill.ensures.len, c.requires.ends)) refl) in
    let one = runs_kept c.fill.new.self c.fill-in-None.new.self first.firsts first.ends top IsAny (IsLeft from to c.args.reach) all
    (rw same at c.narrow_left.ensures) c.narrow_left.auto.firsts in
    let two = runs_kept first.firsts first.ends second.firsts second.ends top _ (IsLeft to from c.args.reach) one
    (rw same at c.narrow_left-in-None.ensures) c.narrow_left-in-None.auto.firsts in
    runs_like second.firsts second.ends top _
    (λ s. IsWithinReach (cross (way from to) (seen_from from s)) c.args.reach)
    (λ s.
    let near = near_line from to c.args.reach s in (
      (λ held. near.1 (held.0.1, held.1)),
      (λ within. let sides = near.0 within in ((omega arith, sides.0), sides.1)),
    )) two

pub narrow_left-requires-in-None-clause-rows : goal.narrow_left-requires-in-None-clause-rows
narrow_left-requires-in-None-clause-rows c = omega (arith)

pub count_both-requires-clause-ends : goal.count_both-requires-clause-ends
count_both-requires-clause-ends c = omega (arith)

pub narrow_left-requires-in-None-clause-ends : goal.narrow_left-requires-in-None-clause-ends
narrow_left-requires-in-None-clause-ends c = grind (arith)

pub narrow_left-requires-clause-rows : goal.narrow_left-requires-clause-rows
narrow_left-requires-clause-rows c = omega (arith)

pub narrow_left-requires-clause-ends : goal.narrow_left-requires-clause-ends
narrow_left-requires-clause-ends c = omega (arith)
