use Rattle.std.proofs.Common.{◌<◌, ◌≡◌, length, arith, ap}
use Rattle.std.proofs.lemmas.Grind.{common_steps}
use Rattle.std.proofs.lemmas.List.Edits.{map_over_more}
use Rattle.cam_objects.specs.Machinery.FirstCopies.{once_gone}
use Rattle.cam_objects.proofs.boxes.first_copies.close_gap.Goals as goal

pub loop-first-preserved : goal.loop-first-preserved
loop-first-preserved c =
    let whole : length c.deref_mut-first-items.result.now ≡ length c.args.found.now.items = ap length c.deref_mut-first-items.ensures.value in
    let within : c.loop-first.first-index < length c.args.found.now.items = omega (arith, whole) in
    rw (c.close_gap.ensures, ← c.first-item.is)
    (map_over_more (once_gone c.args.place) c.args.found.now.items c.loop-first.first-items c.loop-first.first-index
    c.first-item.result within c.loop-first.invariant c.first-item.is)

pub returns : goal.returns
returns c = grind (arith, common_steps)
