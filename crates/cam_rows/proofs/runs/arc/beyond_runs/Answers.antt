use Rattle.std.proofs.Common.{negsuc, refl, sym, ◌∙◌, arith}
use Rattle.std.proofs.lemmas.Bool.{false≢true}
use Rattle.cam_shapes.specs.Plane.{seen_from, way}
use Rattle.cam_rows.specs.Machinery.HalfPlanes.{IsLeft}
use Rattle.cam_rows.specs.ArcRuns.{IsBeyond, IsLeftOut, IsPastHalf}
use Rattle.cam_rows.proofs.ArcRuns.{by_ends, left_out_by_sides, wide_where_beyond}
use Rattle.cam_rows.proofs.PassedOn.{no_rows, runs_of_none, some_rows}
use Rattle.cam_rows.proofs.WideRows.{IsAny, empty_runs, runs_like, runs_kept, whole_runs}
use Rattle.cam_rows.proofs.runs.arc.beyond_runs.Goals as goal

pub returns-then-is_empty : goal.returns-then-is_empty
returns-then-is_empty c =
    runs_of_none c.args.firsts.now c.args.ends.now c.args.top.now _
    (no_rows _ _ c.is_empty.ensures c.if-is_empty.true)

pub returns-then-not-is_wide_arc : goal.returns-then-not-is_wide_arc
returns-then-not-is_wide_arc c =
    let fill = c.fill-then-not-is_wide_arc in
    empty_runs c.fill.new.self fill.new.self c.args.top.now (λ s. IsBeyond c.args.arc.now s)
    (λ k within. fill.ensures.clones k 0 (omega (arith, within, c.fill.ensures.len, c.requires.ends)) refl)
    (λ s out. false≢true (sym c.if-not-is_wide_arc.true ∙ c.is_wide_arc.ensures.1 (wide_where_beyond c.args.arc.now s out)))

pub returns : goal.returns
returns c =
    let arc = c.args.arc.now in
    let start = c.counterclockwise.result.0 in
    let end = c.counterclockwise.result.1 in
    let top = c.args.top.now in
    let ends = c.counterclockwise.ensures.ends in
    let more = (by_ends (λ s e _. IsPastHalf s e) arc.ccw arc.centre arc.from arc.to _ _ (way arc.centre arc.to) ends).0
    (c.is_wide_arc.ensures.0 c.if-not-is_wide_arc.false) in
    let first = c.narrow_left.new in
    let second = c.narrow_left-2.new in
    let all = whole_runs c.fill.new.self c.fill-2.new.self top
    (λ k within. c.fill.ensures.clones k 0 (rw c.fill.ensures.len at within) refl)
    (λ k within. c.fill-2.ensures.clones k 0 (omega (arith, within, c.fill.ensures.len, c.requires.ends)) refl) in
    let one = runs_kept c.fill.new.self c.fill-2.new.self first.firsts first.ends top IsAny
    (IsLeft start arc.centre (negsuc 0)) all c.narrow_left.ensures c.narrow_left.auto.firsts in
    let two = runs_kept first.firsts first.ends second.firsts second.ends top _ (IsLeft arc.centre end (negsuc 0)) one
    c.narrow_left-2.ensures c.narrow_left-2.auto.firsts in
    runs_like second.firsts second.ends top _ (λ s. IsBeyond arc s)
    (λ s.
    let sides = left_out_by_sides arc.centre start end s more in
    let turn = by_ends IsLeftOut arc.ccw arc.centre arc.from arc.to _ _ (seen_from arc.centre s) ends in (
      (λ held. turn.1 (sides.0 (held.0.1, held.1))),
      (λ out. let both = sides.1 (turn.0 out) in ((omega arith, both.0), both.1)),
    )) two

pub narrow_left-requires-clause-some : goal.narrow_left-requires-clause-some
narrow_left-requires-clause-some c = rw c.fill.ensures.len (some_rows _ _ c.is_empty.ensures c.if-is_empty.false)

pub narrow_left-requires-clause-rows : goal.narrow_left-requires-clause-rows
narrow_left-requires-clause-rows c = rw c.fill.ensures.len c.requires.rows

pub narrow_left-requires-2-clause-some : goal.narrow_left-requires-2-clause-some
narrow_left-requires-2-clause-some c =
    rw (c.narrow_left.auto.firsts, c.fill.ensures.len) (some_rows _ _ c.is_empty.ensures c.if-is_empty.false)

pub narrow_left-requires-2-clause-rows : goal.narrow_left-requires-2-clause-rows
narrow_left-requires-2-clause-rows c = rw (c.narrow_left.auto.firsts, c.fill.ensures.len) c.requires.rows

pub narrow_left-requires-clause-ends : goal.narrow_left-requires-clause-ends
narrow_left-requires-clause-ends c = omega (arith)

pub narrow_left-requires-2-clause-ends : goal.narrow_left-requires-2-clause-ends
narrow_left-requires-2-clause-ends c = grind (arith)
