use Rattle.std.proofs.Common.{◌<◌, ◌≡◌, length, arith, ap}
use Rattle.std.proofs.lemmas.Grind.{common_steps}
use Rattle.std.proofs.lemmas.List.{get_or_default}
use Rattle.std.proofs.lemmas.List.Edits.{map_over_more}
use Rattle.cam_shapes.specs.Shifting.{shifted_seg}
use Rattle.cam_shapes.proofs.segments.shift_segments.Goals as goal

pub loop-seg-preserved : goal.loop-seg-preserved
loop-seg-preserved c =
    let whole : length c.as_mut_slice-seg-items.result.now ≡ length c.args.segs.now =
    ap length c.as_mut_slice-seg-items.ensures.items in
    let within : c.loop-seg.seg-index < length c.args.segs.now = omega (arith, whole) in
    let here : c.loop-seg.seg-index < length c.loop-seg.seg-items = omega (arith, whole) in
    rw c.shifted.ensures
    (map_over_more (shifted_seg c.args.by) c.args.segs.now c.loop-seg.seg-items c.loop-seg.seg-index _ within
    c.loop-seg.invariant (get_or_default c.loop-seg.seg-items c.loop-seg.seg-index _ _ here))

pub returns : goal.returns
returns c = grind (arith, common_steps)
