use Rattle.cam_apertures.specs.Primitives.{box_of_point}
use Rattle.cam_apertures.proofs.Corners.{one_more, small_joined}
use Rattle.cam_apertures.proofs.boxes.box_of_points.Goals as goal

pub loop-point-preserved : goal.loop-point-preserved
loop-point-preserved c = record {
  box = one_more box_of_point c.args.points.now c.loop-point.point-index _ c.loop-point.bounds c.box_of_point.result c.joined-bounds.result
      c.loop-point-test.true c.loop-point.invariant.box c.box_of_point.ensures.value c.joined-bounds.ensures.value;
  small = small_joined c.loop-point.bounds c.box_of_point.result c.joined-bounds.result c.joined-bounds.ensures.value
      c.loop-point.invariant.small c.box_of_point.ensures.small;
}
