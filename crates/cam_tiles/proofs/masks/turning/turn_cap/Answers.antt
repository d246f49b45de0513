use Rattle.std.proofs.Common.{◌-◌, IsTrue, rules, arith, refl}
use Rattle.std.proofs.lemmas.Grind.{common_steps}
use Rattle.cam_shapes.specs.Cap.{is_in_cap}
use Rattle.cam_tiles.proofs.Fields.{field_rows}
use Rattle.cam_tiles.proofs.TurnedMarks.{no_rows, runs_turned}
use Rattle.cam_tiles.proofs.masks.turning.turn_cap.Goals as goal

pub returns-then-band : goal.returns-then-band
returns-then-band c =
    no_rows c.args.field.now c.band-band.result.first c.band-band.result.end c.heights.result
    (λ s. IsTrue (is_in_cap s c.args.cap.now)) c.args.marks.now c.if-band.true
    (rw c.levels.ensures.value at c.band-band.ensures.rows) c.heights.ensures

pub height-requires-clause-row : goal.height-requires-clause-row
height-requires-clause-row c =
    rw c.levels-2.ensures.value (omega (arith, rw c.levels.ensures.value at c.band-band.ensures.end, c.if-band.false))

pub cap_runs-requires-clause-rows : goal.cap_runs-requires-clause-rows
cap_runs-requires-clause-rows c =
    let band = c.band-band.result in
    let low = rw c.levels.ensures.value at c.band-band.ensures.end in
    field_rows c.args.field.now band.first _ _ _ (band.end - band.first) _
    (search rules) (search rules) (search rules) (omega (arith, low, c.if-band.false)) (search rules)

pub returns : goal.returns
returns c =
    let band = c.band-band.result in
    runs_turned c.args.field.now band.first band.end
    (λ s. IsTrue (is_in_cap s c.args.cap.now)) _ _ _ c.args.marks.now c.mark_runs.new.marks
    (search rules) (search rules) (search rules) (omega (arith, c.if-band.false)) c.requires.wide.room
    (λ row s on held. ((rw c.levels.ensures.value at c.band-band.ensures.rows) row s on).1 (c.heights.ensures s held))
    c.cap_runs.new.firsts c.cap_runs.new.ends
    (search rules) c.cap_runs.ensures c.mark_runs.ensures

pub mark_runs-requires-clause-rows : goal.mark_runs-requires-clause-rows
mark_runs-requires-clause-rows c = grind (arith, common_steps)

pub band-band-requires : goal.band-band-requires
band-band-requires c = assumption arith

pub slice_bounds-firsts-end-2 : goal.slice_bounds-firsts-end-2
slice_bounds-firsts-end-2 c = grind (arith, common_steps)

pub mark_runs-requires-clause-same : goal.mark_runs-requires-clause-same
mark_runs-requires-clause-same c = grind (arith)

pub slice_bounds-ends-end : goal.slice_bounds-ends-end
slice_bounds-ends-end c = grind (arith)

pub mark_runs-requires-clause-ends : goal.mark_runs-requires-clause-ends
mark_runs-requires-clause-ends c = grind (arith)

pub height-requires-clause-levels : goal.height-requires-clause-levels
height-requires-clause-levels c = assumption arith

pub levels-requires-2 : goal.levels-requires-2
levels-requires-2 c = assumption arith

pub slice_bounds-ends-end-2 : goal.slice_bounds-ends-end-2
slice_bounds-ends-end-2 c = grind (arith, common_steps)

pub levels-requires : goal.levels-requires
levels-requires c = assumption arith

pub cap_runs-requires-clause-ends : goal.cap_runs-requires-clause-ends
cap_runs-requires-clause-ends c = refl

pub slice_bounds-firsts-end : goal.slice_bounds-firsts-end
slice_bounds-firsts-end c = grind (arith)
