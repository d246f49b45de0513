use Rattle.std.proofs.Common.{rules, ◌≡◌, ◌++◌, ◌∷◌, []}
use Rattle.cam_objects.specs.Soundness.{MayAddEntry}
use Rattle.known_answers.proofs.layers.building.add_entry.Goals as goal

pub returns : goal.returns
returns c =
    let l = c.args.layer.now in
    let m = c.add_entry.new.self in
    let may : MayAddEntry l.apertures c.args.number c.args.entry = search rules in
    let grown = c.layers_stay_sound.ensures.add_entry l.apertures l.items.items c.args.number c.args.entry c.requires.content may in
    let entries : m.apertures ≡ l.apertures ++ (c.args.number, c.args.entry) ∷ [] = search rules in
    let items : m.items.items ≡ l.items.items = search rules in
    let kept : m.attributes ≡ l.attributes = search rules in
    record { attributes = rw kept c.requires.attributes; content = rw (entries, items) grown }
