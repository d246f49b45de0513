use Rattle.std.proofs.Common.{IsTrue, length, sym, ◌∙◌, arith}
use Rattle.std.proofs.lemmas.Grind.{common_steps}
use Rattle.cam_shapes.specs.Cap.{is_in_cap, is_in_circle, is_on_side}
use Rattle.cam_shapes.specs.Plane.{seen_from, way}
use Rattle.cam_rows.proofs.CapRows.{part_of_circle}
use Rattle.cam_rows.proofs.PassedOn.{some_rows}
use Rattle.cam_rows.proofs.WideRows.{runs_like, half_narrowed, runs_kept, top_is_wide}
use Rattle.cam_rows.proofs.runs.cap.cap_runs.Goals as goal

pub returns : goal.returns
returns c =
    let cap = c.args.cap.now in
    let top = c.args.top.now in
    runs_like c.narrow.new.firsts c.narrow.new.ends top
    (λ s. IsTrue (is_in_circle (way cap.centre cap.from) (seen_from cap.centre s)) × IsTrue (is_on_side s cap))
    (λ s. IsTrue (is_in_cap s cap))
    (λ s. part_of_circle s cap (sym c.eq.ensures ∙ c.if-eq.false))
    (runs_kept c.circle_runs.new.firsts c.circle_runs.new.ends c.narrow.new.firsts c.narrow.new.ends top
    (λ s. IsTrue (is_in_circle (way cap.centre cap.from) (seen_from cap.centre s))) (λ s. IsTrue (is_on_side s cap))
    c.circle_runs.ensures
    (half_narrowed _ _ _ _ _ top (λ s. IsTrue (is_on_side s cap)) c.side.result c.side.ensures c.narrow.ensures) c.narrow.auto.firsts)

pub circle_runs-requires-clause-some : goal.circle_runs-requires-clause-some
circle_runs-requires-clause-some c = some_rows _ _ c.is_empty.ensures c.if-is_empty.false

pub narrow-requires-clause-ends : goal.narrow-requires-clause-ends
narrow-requires-clause-ends c = rw (c.circle_runs.auto.ends, c.circle_runs.auto.firsts) c.requires.ends

pub narrow-requires-clause-short : goal.narrow-requires-clause-short
narrow-requires-clause-short c =
    rw c.circle_runs.auto.firsts (c.side.ensures.short _ c.requires.rows)

pub side-requires-clause-row : goal.side-requires-clause-row
side-requires-clause-row c =
    top_is_wide c.args.top.now (length c.args.firsts.now) (some_rows _ _ c.is_empty.ensures c.if-is_empty.false)
    c.requires.rows

pub narrow-requires-clause-few : goal.narrow-requires-clause-few
narrow-requires-clause-few c = grind (arith, common_steps)
