use Rattle.std.proofs.Common.{length, arith}
use Rattle.cam_shapes.specs.Box.{IsInObround}
use Rattle.cam_rows.proofs.WideRows.{all_found, one_more_run, top_is_wide, no_run}
use Rattle.cam_rows.proofs.runs.obround.obround_runs.Goals as goal

pub wide_below-requires-clause-top : goal.wide_below-requires-clause-top
wide_below-requires-clause-top c = top_is_wide c.args.top.now (length c.args.firsts.now) (omega arith) c.requires.rows

pub obround_run-run-requires-clause-row : goal.obround_run-run-requires-clause-row
obround_run-run-requires-clause-row c = rw c.wide_below.ensures (c.requires.rows c.loop-k.k (omega arith))

pub loop-k-preserved : goal.loop-k-preserved
loop-k-preserved c =
    one_more_run c.loop-k.firsts c.loop-k.ends c.args.top.now (λ s. IsInObround s c.args.obround.now) c.loop-k.k
    c.obround_run-run.result.first c.obround_run-run.result.end (omega arith) (omega (arith, c.requires.ends))
    c.loop-k.invariant (rw c.wide_below.ensures at c.obround_run-run.ensures.each)
    (rw c.wide_below.ensures at c.obround_run-run.ensures.within)

pub returns : goal.returns
returns c =
    all_found c.loop-k.firsts c.loop-k.ends c.args.top.now (λ s. IsInObround s c.args.obround.now) c.loop-k.k
    (omega (arith, c.loop-k-test.false)) c.loop-k.invariant

pub loop-k-init : goal.loop-k-init
loop-k-init c = grind (arith, no_run)
