use Rattle.std.proofs.Common.{rules, ◌-◌, refl, length, slice_index, arith}
use Rattle.cam_rows.specs.Machinery.Narrowing.{IsUp}
use Rattle.cam_rows.specs.Machinery.Slopes.{falling}
use Rattle.cam_rows.proofs.SetRows.{all_counted, counted_alike, next_set, none_set, same_counted}
use Rattle.cam_rows.proofs.SlopeBits.{end_cut, falling_below, nearer, stays_counted}
use Rattle.cam_rows.proofs.Slopes.{lowered_none}
use Rattle.cam_rows.proofs.slope.cutting.count_both.Goals as goal

pub loop-k-init : goal.loop-k-init
loop-k-init c = search (rules, lowered_none, none_set)

pub loop-k-preserved : goal.loop-k-preserved
loop-k-preserved c =
    let steps = c.args.steps.now in
    let was = c.loop-k.invariant in
    let k = c.loop-k.k in
    record {
      low = falling_below c.args.low c.loop-k.first c.below-first.result steps k was.low c.below-first.ensures.lowered;
      high = falling_below c.args.high c.loop-k.end c.below-end.result steps k was.high c.below-end.ensures.lowered;
      near_low = nearer steps c.below-first.result _ _ (omega arith) (c.below-first.ensures.near _ was.near_low);
      near_high = nearer steps c.below-end.result _ _ (omega arith) (c.below-end.ensures.near _ was.near_high);
      firsts =
          next_set _ c.args.firsts.now c.loop-k.firsts k _ (omega arith) was.firsts
          (end_cut c.args.low c.loop-k.first steps k _ c.requires.steps was.near_low was.low _ _ c.columns_before-in-loop-k.ensures);
      ends =
          next_set _ c.args.ends.now c.loop-k.ends k _ (omega (arith, c.requires.ends)) was.ends
          (end_cut c.args.high c.loop-k.end steps k _ c.requires.steps was.near_high was.high _ _
          c.columns_before-in-loop-k-2.ensures);
    }

pub returns-then-stays-2-clause-firsts : goal.returns-then-stays-2-clause-firsts
returns-then-stays-2-clause-firsts c =
    let rows = length c.args.firsts.now in
    let count = c.columns_before in
    let held = IsUp (falling c.args.low c.args.steps.now) in
    counted_alike c.args.columns rows held (λ _. count.result) (λ k. slice_index c.fill.new.self k)
    (λ k within. c.fill.ensures.clones k 0 (omega (arith, within, c.fill.ensures.len)) refl)
    (same_counted c.args.columns rows count.result held
    (λ k i within. stays_counted c.args.low c.args.steps.now _ k (rows - 1) c.args.columns count.result i
    c.requires.steps c.requires.low (omega (arith, within)) (c.stays.ensures.0 c.if-stays.true) (count.ensures i)))

pub returns-then-stays-2-clause-ends : goal.returns-then-stays-2-clause-ends
returns-then-stays-2-clause-ends c =
    let rows = length c.args.firsts.now in
    let count = c.columns_before-then-stays-2 in
    let fill = c.fill-then-stays-2 in
    let held = IsUp (falling c.args.high c.args.steps.now) in
    counted_alike c.args.columns rows held (λ _. count.result) (λ k. slice_index fill.new.self k)
    (λ k within. fill.ensures.clones k 0 (omega (arith, within, fill.ensures.len, c.requires.ends)) refl)
    (same_counted c.args.columns rows count.result held
    (λ k i within. stays_counted c.args.high c.args.steps.now _ k (rows - 1) c.args.columns count.result i
    c.requires.steps c.requires.high (omega (arith, within)) (c.stays-then-stays.ensures.0 c.if-stays-2.true) (count.ensures i)))

pub returns-clause-firsts : goal.returns-clause-firsts
returns-clause-firsts c =
    all_counted c.args.columns (length c.args.firsts.now) c.args.firsts.now c.loop-k.firsts
    (IsUp (falling c.args.low c.args.steps.now)) c.loop-k.k (omega (arith, c.loop-k-test.false, c.loop-k.invariant.firsts.size))
    c.loop-k.invariant.firsts

pub returns-clause-ends : goal.returns-clause-ends
returns-clause-ends c =
    all_counted c.args.columns (length c.args.firsts.now) c.args.ends.now c.loop-k.ends
    (IsUp (falling c.args.high c.args.steps.now)) c.loop-k.k (omega (arith, c.loop-k-test.false, c.loop-k.invariant.firsts.size))
    c.loop-k.invariant.ends

pub below-first-requires-clause-here : goal.below-first-requires-clause-here
below-first-requires-clause-here c = grind (arith)

pub below-end-requires-clause-here : goal.below-end-requires-clause-here
below-end-requires-clause-here c = grind (arith)

pub stays-requires-then-stays-clause-some : goal.stays-requires-then-stays-clause-some
stays-requires-then-stays-clause-some c = grind (arith)
