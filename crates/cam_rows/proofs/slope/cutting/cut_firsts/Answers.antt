use Rattle.std.proofs.Common.{sym, arith}
use Rattle.cam_rows.proofs.SetRows.{next_set, none_set}
use Rattle.cam_rows.proofs.SlopeBits.{first_cut, falling_below, nearer}
use Rattle.cam_rows.proofs.Slopes.{lowered_none}
use Rattle.cam_rows.proofs.slope.cutting.cut_firsts.Goals as goal

pub loop-k-init : goal.loop-k-init
loop-k-init c = record { lowered = sym (lowered_none _); here = c.requires.top; cut = none_set _ _ }

pub loop-k-preserved : goal.loop-k-preserved
loop-k-preserved c =
    let top = c.args.top in
    let steps = c.args.steps.now in
    let was = c.loop-k.invariant in
    let firsts = c.args.firsts.now in
    record {
      lowered =
          falling_below top c.loop-k.crossing c.below-crossing.result steps c.loop-k.k was.lowered
          c.below-crossing.ensures.lowered;
      here = nearer steps c.below-crossing.result _ _ (omega arith) (c.below-crossing.ensures.near _ was.here);
      cut =
          next_set _ firsts c.loop-k.firsts c.loop-k.k _ (omega arith) was.cut
          (first_cut top c.loop-k.crossing steps c.loop-k.k _ c.requires.steps was.here was.lowered
          c.args.columns _ c.columns_before.result _ c.columns_before.ensures
          (rw (was.cut.same c.loop-k.k (omega arith)) at c.max.ensures));
    }

pub returns : goal.returns
returns c = λ k i within. c.loop-k.invariant.cut.above k (omega (arith, within, c.loop-k-test.false)) i

pub below-crossing-requires-clause-here : goal.below-crossing-requires-clause-here
below-crossing-requires-clause-here c = grind (arith)
