use Rattle.std.proofs.Common.{◌<◌, ◌≡◌, length, arith, ap}
use Rattle.std.proofs.lemmas.Grind.{common_steps}
use Rattle.std.proofs.lemmas.List.{get_or_default}
use Rattle.std.proofs.lemmas.List.Edits.{map_over_more}
use Rattle.cam_shapes.specs.Shifting.{shifted_point}
use Rattle.cam_objects.proofs.points.shift_points.Goals as goal

pub loop-point-preserved : goal.loop-point-preserved
loop-point-preserved c =
    let whole : length c.as_mut_slice-point-items.result.now ≡ length c.args.points.now =
    ap length c.as_mut_slice-point-items.ensures.items in
    let within : c.loop-point.point-index < length c.args.points.now = omega (arith, whole) in
    let here : c.loop-point.point-index < length c.loop-point.point-items = omega (arith, whole) in
    rw c.shifted.ensures
    (map_over_more (shifted_point c.args.by) c.args.points.now c.loop-point.point-items c.loop-point.point-index _ within
    c.loop-point.invariant (get_or_default c.loop-point.point-items c.loop-point.point-index _ _ here))

pub returns : goal.returns
returns c = grind (arith, common_steps)
