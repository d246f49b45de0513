use Rattle.std.proofs.Common.{◌-◌, ◌^◌, length, ◌<◌, slice_index, sym, arith, rules}
use Rattle.std.proofs.lemmas.Grind.{common_steps}
use Rattle.cam_rows.proofs.SetRows.{next_set, none_set}
use Rattle.cam_rows.proofs.SlopeBits.{end_cut, end_cut_to, falling_below, nearer, stays_tells}
use Rattle.cam_rows.proofs.Slopes.{lowered_none}
use Rattle.cam_rows.proofs.slope.cutting.cut_ends.Goals as goal

pub loop-k-init : goal.loop-k-init
loop-k-init c = record { lowered = sym (lowered_none _); here = c.requires.top; cut = none_set _ _ }

pub loop-k-preserved : goal.loop-k-preserved
loop-k-preserved c =
    let top = c.args.top in
    let steps = c.args.steps.now in
    let was = c.loop-k.invariant in
    let ends = c.args.ends.now in
    record {
      lowered =
          falling_below top c.loop-k.crossing c.below-crossing.result steps c.loop-k.k was.lowered
          c.below-crossing.ensures.lowered;
      here = nearer steps c.below-crossing.result _ _ (omega arith) (c.below-crossing.ensures.near _ was.here);
      cut =
          next_set _ ends c.loop-k.ends c.loop-k.k _ (omega arith) was.cut
          (end_cut top c.loop-k.crossing steps c.loop-k.k _ c.requires.steps was.here was.lowered _ _
          (rw (was.cut.same c.loop-k.k (omega arith)) at c.columns_before.ensures));
    }

pub loop-row-init : goal.loop-row-init
loop-row-init c = none_set _ _

pub returns-then-stays : goal.returns-then-stays
returns-then-stays c = λ k i within.
    let top = c.args.top in
    let ends = c.args.ends.now in
    let last = length ends - 1 in
    let short : slice_index ends k < 2 ^ 32 = search rules in
    end_cut_to (slice_index ends k) (slice_index c.loop-row.ends k) c.columns_before-columns.result (2 ^ 32 - 1) i _ _
    (c.loop-row.invariant.above k (omega (arith, within, c.loop-row-test.false, c.loop-row.invariant.size))) (omega (arith, short)) (c.columns_before-columns.ensures i)
    (stays_tells top c.args.steps.now _ k last i c.requires.steps c.requires.top (omega (arith, within)) (c.stays.ensures.0 c.if-stays.true))

pub returns : goal.returns
returns c = λ k i within. c.loop-k.invariant.cut.above k (omega (arith, within, c.loop-k-test.false)) i

pub returns-then-is_empty : goal.returns-then-is_empty
returns-then-is_empty c = grind (arith, common_steps)

pub below-crossing-requires-clause-here : goal.below-crossing-requires-clause-here
below-crossing-requires-clause-here c = grind (arith)
