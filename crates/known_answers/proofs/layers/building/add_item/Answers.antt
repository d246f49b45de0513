use Rattle.std.proofs.Common.{rules, ◌≡◌, ◌++◌, ◌∷◌, []}
use Rattle.cam_objects.specs.Soundness.{IsSoundItem, KeepsLimits}
use Rattle.known_answers.proofs.layers.building.add_item.Goals as goal

pub returns : goal.returns
returns c =
    let l = c.args.layer.now in
    let m = c.push.new.self in
    let sound : IsSoundItem l.apertures c.args.item = search rules in
    let room : KeepsLimits l.apertures (l.items.items ++ c.args.item ∷ []) = search rules in
    let grown = c.layers_stay_sound.ensures.push l.apertures l.items.items c.args.item c.requires.content sound room in
    let items : m.items.items ≡ l.items.items ++ c.args.item ∷ [] = search rules in
    let entries : m.apertures ≡ l.apertures = search rules in
    let kept : m.attributes ≡ l.attributes = search rules in
    record { attributes = rw kept c.requires.attributes; content = rw (entries, items) grown }
