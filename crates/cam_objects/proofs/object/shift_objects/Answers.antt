use Rattle.std.proofs.Common.{◌<◌, ◌≡◌, length, arith, ap}
use Rattle.std.proofs.lemmas.Grind.{common_steps}
use Rattle.std.proofs.lemmas.List.Edits.{map_over_more}
use Rattle.cam_objects.specs.Shifting.{shifted_object}
use Rattle.cam_objects.proofs.object.shift_objects.Goals as goal

pub loop-object-preserved : goal.loop-object-preserved
loop-object-preserved c =
    let whole : length c.as_mut_slice-object-items.result.now ≡ length c.args.objects.now =
    ap length c.as_mut_slice-object-items.ensures.items in
    let within : c.loop-object.object-index < length c.args.objects.now = omega (arith, whole) in
    rw (c.shift.ensures, ← c.object-item.is)
    (map_over_more (shifted_object c.args.by) c.args.objects.now c.loop-object.object-items c.loop-object.object-index
    c.object-item.result within c.loop-object.invariant c.object-item.is)

pub returns : goal.returns
returns c = grind (arith, common_steps)
