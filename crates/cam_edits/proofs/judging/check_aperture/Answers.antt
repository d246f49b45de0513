use Rattle.std.proofs.Common.{arith, sym, ◌∙◌}
use Rattle.cam_objects.specs.Contents.{content_of}
use Rattle.cam_edits.proofs.GerberEdits.{aperture_changed, aperture_kept, no_aperture}
use Rattle.cam_edits.proofs.Refusals.{none_at, read_at}
use Rattle.cam_edits.proofs.judging.check_aperture.Goals as goal

pub returns-in_default : goal.returns-in_default
returns-in_default c = grind (arith, no_aperture, none_at)

pub returns-in_default-other_aperture : goal.returns-in_default-other_aperture
returns-in_default-other_aperture c = grind (arith, aperture_kept, read_at)

pub returns : goal.returns
returns c =
    let layer = c.args.layer.now in
    let x = c.in-Some.item.now in
    let read = c.in-Some.ensures.lookup in
    let set = c.in-Some-other_aperture in
    let room = c.has_room_at_beside-has_room in
    c.judge_item.ensures
    ∙ aperture_changed (content_of layer) c.args.k c.args.n x
    (read_at layer.items.items c.deref.result.now c.args.k x c.deref.ensures.value read.0 read.1) set.item
    (sym c.other_aperture.ensures.value ∙ set.is) c.check_item.result c.check_item.ensures room.result room.ensures
