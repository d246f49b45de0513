use Rattle.std.proofs.Common.{◌<◌, ◌≡◌, length, arith, ap, ◌∙◌}
use Rattle.std.proofs.lemmas.List.{append-nil, drop_all, take_all, take_at}
use Rattle.std.proofs.lemmas.List.Edits.{map_over_more}
use Rattle.cam_objects.specs.Machinery.FirstCopies.{once_come}
use Rattle.cam_objects.proofs.KeptCopies.{item_came}
use Rattle.cam_objects.proofs.boxes.first_copies.FirstCopies.insert.Goals as goal

pub loop-first-preserved : goal.loop-first-preserved
loop-first-preserved c =
    let whole : length c.deref_mut-first-items.result.now ≡ length c.args.self.now =
    ap length (c.deref_mut-first-items.ensures.value ∙ c.self.view_is) in
    let within : c.loop-first.first-index < length c.args.self.now = omega (arith, whole) in
    rw (c.make_room.ensures, ← c.first-item.is)
    (map_over_more (once_come c.args.place) c.args.self.now c.loop-first.first-items c.loop-first.first-index
    c.first-item.result within c.loop-first.invariant c.first-item.is)

pub returns : goal.returns
returns c = λ entries before item known within few. grind (arith, take_at, take_all, drop_all, append-nil, item_came)
