use Rattle.std.proofs.Common.{◌∙◌, ap, arith, length}
use Rattle.cam_script.specs.Items.{segs_in}
use Rattle.cam_script.proofs.Parts.{counts_none, counts_one, counts_bad, counts_all}
use Rattle.cam_script.proofs.segments.count_segments.Goals as goal

pub loop-form-init : goal.loop-form-init
loop-form-init c = record {
  counted = rw c.again-rest.ensures.same (counts_none (segs_in c.args.words.now));
  few = omega (arith, c.again-rest.ensures.few);
}

pub returns-in_err-_seg : goal.returns-in_err-_seg
returns-in_err-_seg c =
    rw c.from_residual.ensures
    (counts_bad (segs_in c.args.words.now) (segs_in c.loop-form.rest) c.loop-form.count c.loop-form.invariant.counted
    (ap segs_in c.in-Some.ensures.some ∙ c.in_err-_seg.ensures.none))

pub loop-form-preserved : goal.loop-form-preserved
loop-form-preserved c = record {
  counted = counts_one (segs_in c.args.words.now) (segs_in c.loop-form.rest) (segs_in c.seg_behind.new.words)
      c.in_ok-_seg._seg c.loop-form.count c.loop-form.invariant.counted
      (ap segs_in c.in-Some.ensures.some ∙ c.in_ok-_seg.ensures.some);
  few = omega (arith, ap length c.in-Some.ensures.some, c.in_ok-_seg.ensures.taken, c.loop-form.invariant.few);
}

pub returns : goal.returns
returns c =
    counts_all (segs_in c.args.words.now) (segs_in c.loop-form.rest) c.loop-form.count c.loop-form.invariant.counted
    (ap segs_in c.in_default.ensures.none.0)

pub loop-form-smaller : goal.loop-form-smaller
loop-form-smaller c = grind (arith)

pub overflow_add-count : goal.overflow_add-count
overflow_add-count c = grind (arith)
