use Rattle.std.proofs.Common.{◌∙◌, ap, arith, length}
use Rattle.cam_script.specs.Items.{points_in}
use Rattle.cam_script.proofs.Parts.{counts_none, counts_one, counts_bad, counts_all}
use Rattle.cam_script.proofs.segments.count_points.Goals as goal

pub loop-x-init : goal.loop-x-init
loop-x-init c = record {
  counted = rw c.again-rest.ensures.same (counts_none (points_in c.args.words.now));
  few = omega (arith, c.again-rest.ensures.few);
}

pub returns-in_err-_point : goal.returns-in_err-_point
returns-in_err-_point c =
    rw c.from_residual.ensures
    (counts_bad (points_in c.args.words.now) (points_in c.loop-x.rest) c.loop-x.count c.loop-x.invariant.counted
    (ap points_in c.in-Some.ensures.some ∙ c.in_err-_point.ensures.none))

pub loop-x-preserved : goal.loop-x-preserved
loop-x-preserved c = record {
  counted = counts_one (points_in c.args.words.now) (points_in c.loop-x.rest) (points_in c.point_behind.new.words)
      c.in_ok-_point._point c.loop-x.count c.loop-x.invariant.counted
      (ap points_in c.in-Some.ensures.some ∙ c.in_ok-_point.ensures.some);
  few = omega (arith, ap length c.in-Some.ensures.some, c.in_ok-_point.ensures.taken, c.loop-x.invariant.few);
}

pub returns : goal.returns
returns c =
    counts_all (points_in c.args.words.now) (points_in c.loop-x.rest) c.loop-x.count c.loop-x.invariant.counted
    (ap points_in c.in_default.ensures.none.0)

pub overflow_add-count : goal.overflow_add-count
overflow_add-count c = grind (arith)

pub loop-x-smaller : goal.loop-x-smaller
loop-x-smaller c = grind (arith)
