use Rattle.std.proofs.Common.{rules, IsTrue, sym, arith}
use Rattle.std.proofs.lemmas.Grind.{common_steps}
use Rattle.cam_shapes.specs.Cap.{is_in_circle}
use Rattle.cam_shapes.specs.Plane.{seen_from, way}
use Rattle.cam_rows.specs.Rows.{centre_at, row_below}
use Rattle.cam_rows.proofs.NearRows.{height_passed, height_within}
use Rattle.cam_rows.proofs.WideRows.{all_found, no_run, one_more_run, top_is_wide}
use Rattle.cam_rows.proofs.runs.cap.rows_of.Goals as goal

pub at_middle-chord-requires-clause-row : goal.at_middle-chord-requires-clause-row
at_middle-chord-requires-clause-row g c = search (rules, top_is_wide)

pub at_middle-chord-requires-clause-far : goal.at_middle-chord-requires-clause-far
at_middle-chord-requires-clause-far g c = c.requires.within.far

pub rise_below-requires-clause-rows : goal.rise_below-requires-clause-rows
rise_below-requires-clause-rows g c = λ k within. c.requires.rows k (omega (arith, within, c.requires.some))

pub rise_below-requires-in-loop-k-clause-rows : goal.rise_below-requires-in-loop-k-clause-rows
rise_below-requires-in-loop-k-clause-rows g c = λ k within. c.requires.rows k (omega (arith, within, c.loop-k-test.true))

pub run_at-run-requires-clause-height : goal.run_at-run-requires-clause-height
run_at-run-requires-clause-height g c = grind (arith, height_within)

pub loop-k-preserved : goal.loop-k-preserved
loop-k-preserved g c =
    let top = c.args.top.now in
    let cap = c.args.cap.now in
    let k = c.loop-k.k in
    let run = c.run_at-run in
    let inv = c.loop-k.invariant in
    let rows = c.requires.within in
    let height = height_passed g.row.REACH _ _ rows.far (rows.rows k (omega (arith, c.loop-k-test.true)))
    c.rise_below-in-loop-k.ensures in
    record {
      chord = run.ensures.chord;
      offsets = rw run.ensures.same inv.offsets;
      found = one_more_run c.loop-k.firsts c.loop-k.ends top
          (λ s. IsTrue (is_in_circle (way cap.centre cap.from) (seen_from cap.centre s))) k run.result.first
          run.result.end (omega arith) (omega (arith, c.requires.ends)) inv.found
          (λ i small.
          run.ensures.each (way cap.centre cap.from) (seen_from cap.centre (centre_at (row_below top k) i)) i
          c.requires.radius (sym height) (sym (inv.offsets.each i)) (rw inv.offsets.count small))
          (rw inv.offsets.count at run.ensures.within);
    }

pub returns : goal.returns
returns g c =
    all_found c.loop-k.firsts c.loop-k.ends c.args.top.now
    (λ s. IsTrue (is_in_circle (way c.args.cap.now.centre c.args.cap.now.from) (seen_from c.args.cap.now.centre s)))
    c.loop-k.k (omega (arith, c.loop-k-test.false)) c.loop-k.invariant.found

pub room_at-requires-clause-height : goal.room_at-requires-clause-height
room_at-requires-clause-height g c =
    let within = c.requires.within in
    height_within g.row.REACH _ _ within.far (within.rows 0 c.requires.some) c.rise_below.ensures

pub loop-k-init : goal.loop-k-init
loop-k-init g c = record {
  chord = c.leap.ensures.chord;
  offsets = rw c.leap.ensures.same c.at_middle-chord.ensures.offsets;
  found = no_run _ _ _ _;
}

pub bounds-firsts-k : goal.bounds-firsts-k
bounds-firsts-k c = grind (arith)

pub bounds-ends-k : goal.bounds-ends-k
bounds-ends-k c = omega (arith)

pub run_at-run-requires-clause-chord : goal.run_at-run-requires-clause-chord
run_at-run-requires-clause-chord c = assumption arith

pub leap-requires-clause-chord : goal.leap-requires-clause-chord
leap-requires-clause-chord c = assumption arith

pub at_middle-chord-requires-clause-near : goal.at_middle-chord-requires-clause-near
at_middle-chord-requires-clause-near c = grind (arith)

pub overflow_add-radius : goal.overflow_add-radius
overflow_add-radius c = grind (arith, common_steps)
