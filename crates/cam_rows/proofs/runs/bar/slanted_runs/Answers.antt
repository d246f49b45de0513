use Rattle.std.proofs.Common.{◌≡◌, ◌↔◌, ℤ, to_z, of_z, inr, arith}
use Rattle.std.specs.Int.{w64, w128}
use Rattle.cam_shapes.specs.Bar.{IsInBar}
use Rattle.cam_shapes.specs.Plane.{cross, dot, seen_from, way}
use Rattle.cam_rows.specs.Machinery.Beside.{IsFarOrAhead, IsInside, IsWithinReach}
use Rattle.cam_rows.proofs.BesideWays.{in_bar}
use Rattle.cam_rows.proofs.FarPlaces.{far_is_ahead, far_is_before}
use Rattle.cam_rows.proofs.PassedOn.{kept_reach as reach_is, kept_size, no_rows, passed_reach, passed_size, runs_of_none}
use Rattle.cam_rows.proofs.PassedOn.{some_rows}
use Rattle.cam_rows.proofs.WideRows.{runs_kept, runs_like}
use Rattle.cam_rows.proofs.runs.bar.slanted_runs.Goals as goal
use Rattle.cam_rows.proofs.runs.bar.slanted_runs.Goals.{After-narrow_ahead-2}

-- the reach and the width, as they are passed
abbrev reach : After-narrow_ahead-2 → ℤ
reach c = to_z w128 (of_z w128 c.reach_of.result)

kept_reach : (c : After-narrow_ahead-2) → reach c ≡ c.reach_of.result
kept_reach c = reach_is c.reach_of.result c.reach_of.ensures.bound

kept_width : (c : After-narrow_ahead-2) → to_z w64 (of_z w64 c.args.bar.now.width.0) ≡ c.args.bar.now.width.0
kept_width c = kept_size c.args.bar.now.width.0 c.requires.bar.width

pub returns : goal.returns
returns c =
    let at = (goal.at.returns c).After-narrow_ahead-2 in
    let bar = c.args.bar.now in
    let top = c.args.top.now in
    let one = runs_kept _ _ c.narrow_ahead.new.firsts c.narrow_ahead.new.ends top _
    (IsFarOrAhead bar.from bar.to bar.width.0) c.runs_beside.ensures (rw (kept_width at) at c.narrow_ahead.ensures)
    c.narrow_ahead.auto.firsts in
    let two = runs_kept _ _ c.narrow_ahead-2.new.firsts c.narrow_ahead-2.new.ends top _
    (IsFarOrAhead bar.to bar.from bar.width.0) one (rw (kept_width at) at c.narrow_ahead-2.ensures)
    c.narrow_ahead-2.auto.firsts in
    let each : (z : ℤ) → IsWithinReach z (reach at)
    ↔ IsInside z bar.width.0 (dot (way bar.from bar.to) (way bar.from bar.to)) =
    rw (kept_reach at) c.reach_of.ensures.each in
    runs_like c.narrow_ahead-2.new.firsts c.narrow_ahead-2.new.ends top _ (λ s. IsInBar s bar)
    (λ s.
    let told = in_bar s bar (reach at) each in (
      (λ held.
          let near = held.0.0 in
          let inside = (each (cross (way bar.from bar.to) (seen_from bar.from s))).0 near in
          told.1 (
            far_is_ahead bar.from bar.to bar.width.0 s inside held.0.1,
            far_is_before bar.from bar.to bar.width.0 s inside held.1,
            near,
          )),
      (λ inside. let parts = told.0 inside in ((parts.2, inr parts.0), inr parts.1)),
    )) two

pub returns-then-is_empty : goal.returns-then-is_empty
returns-then-is_empty c =
    runs_of_none c.args.firsts.now c.args.ends.now c.args.top.now _
    (no_rows _ _ c.is_empty.ensures c.if-is_empty.true)

pub runs_beside-requires-clause-reach : goal.runs_beside-requires-clause-reach
runs_beside-requires-clause-reach c = passed_reach c.reach_of.result c.reach_of.ensures.bound

pub runs_beside-requires-clause-some : goal.runs_beside-requires-clause-some
runs_beside-requires-clause-some c = some_rows _ _ c.is_empty.ensures c.if-is_empty.false

pub narrow_ahead-requires-clause-width : goal.narrow_ahead-requires-clause-width
narrow_ahead-requires-clause-width c = passed_size c.args.bar.now.width.0 c.requires.bar.width

pub narrow_ahead-requires-clause-some : goal.narrow_ahead-requires-clause-some
narrow_ahead-requires-clause-some c = rw c.runs_beside.auto.firsts (some_rows _ _ c.is_empty.ensures c.if-is_empty.false)

pub narrow_ahead-requires-clause-rows : goal.narrow_ahead-requires-clause-rows
narrow_ahead-requires-clause-rows c = rw c.runs_beside.auto.firsts c.requires.rows

pub narrow_ahead-requires-clause-ends : goal.narrow_ahead-requires-clause-ends
narrow_ahead-requires-clause-ends c = rw (c.runs_beside.auto.ends, c.runs_beside.auto.firsts) c.requires.ends

pub narrow_ahead-requires-2-clause-width : goal.narrow_ahead-requires-2-clause-width
narrow_ahead-requires-2-clause-width c = passed_size c.args.bar.now.width.0 c.requires.bar.width

pub narrow_ahead-requires-2-clause-some : goal.narrow_ahead-requires-2-clause-some
narrow_ahead-requires-2-clause-some c =
    rw (c.narrow_ahead.auto.firsts, c.runs_beside.auto.firsts) (some_rows _ _ c.is_empty.ensures c.if-is_empty.false)

pub narrow_ahead-requires-2-clause-rows : goal.narrow_ahead-requires-2-clause-rows
narrow_ahead-requires-2-clause-rows c = rw (c.narrow_ahead.auto.firsts, c.runs_beside.auto.firsts) c.requires.rows

pub narrow_ahead-requires-2-clause-ends : goal.narrow_ahead-requires-2-clause-ends
narrow_ahead-requires-2-clause-ends c =
    rw (c.narrow_ahead.auto.ends, c.narrow_ahead.auto.firsts, c.runs_beside.auto.ends, c.runs_beside.auto.firsts)
    c.requires.ends

pub runs_beside-requires-clause-rows : goal.runs_beside-requires-clause-rows
runs_beside-requires-clause-rows c = assumption arith

pub runs_beside-requires-clause-ends : goal.runs_beside-requires-clause-ends
runs_beside-requires-clause-ends c = grind (arith)
