use Rattle.std.proofs.Common.{◌-◌, sym, length, arith}
use Rattle.cam_rows.specs.Machinery.Narrowing.{IsUp}
use Rattle.cam_rows.specs.Machinery.Slopes.{falling}
use Rattle.cam_rows.proofs.SetRows.{all_counted, next_set, none_set, same_counted}
use Rattle.cam_rows.proofs.SlopeBits.{end_cut, falling_below, nearer, stays_counted}
use Rattle.cam_rows.proofs.Slopes.{lowered_none}
use Rattle.cam_rows.proofs.slope.cutting.count_ends.Goals as goal

pub loop-k-init : goal.loop-k-init
loop-k-init c = record { lowered = sym (lowered_none _); here = c.requires.top; counted = none_set _ _ }

pub loop-k-preserved : goal.loop-k-preserved
loop-k-preserved c =
    let top = c.args.top in
    let steps = c.args.steps.now in
    let was = c.loop-k.invariant in
    let k = c.loop-k.k in
    record {
      lowered = falling_below top c.loop-k.crossing c.below-crossing.result steps k was.lowered c.below-crossing.ensures.lowered;
      here = nearer steps c.below-crossing.result _ _ (omega arith) (c.below-crossing.ensures.near _ was.here);
      counted =
          next_set _ c.args.ends.now c.loop-k.ends k _ (omega arith) was.counted
          (end_cut top c.loop-k.crossing steps k _ c.requires.steps was.here was.lowered _ _ c.columns_before-in-loop-k.ensures);
    }

pub returns-then-stays : goal.returns-then-stays
returns-then-stays c =
    let rows = length c.args.ends.now in
    same_counted c.args.columns rows c.columns_before.result (IsUp (falling c.args.top c.args.steps.now))
    (λ k i within. stays_counted c.args.top c.args.steps.now _ k (rows - 1) c.args.columns c.columns_before.result i
    c.requires.steps c.requires.top (omega (arith, within)) (c.stays.ensures.0 c.if-stays.true) (c.columns_before.ensures i))

pub returns : goal.returns
returns c =
    all_counted c.args.columns (length c.args.ends.now) c.args.ends.now c.loop-k.ends
    (IsUp (falling c.args.top c.args.steps.now)) c.loop-k.k (omega (arith, c.loop-k-test.false, c.loop-k.invariant.counted.size))
    c.loop-k.invariant.counted

pub below-crossing-requires-clause-here : goal.below-crossing-requires-clause-here
below-crossing-requires-clause-here c = grind (arith)
