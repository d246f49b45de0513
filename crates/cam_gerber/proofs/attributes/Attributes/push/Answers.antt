use Rattle.std.proofs.Common.{◌≡◌, [], ◌∷◌, ◌++◌, None, cond, ap, ap₂, ◌∙◌, arith}
use Rattle.std.proofs.lemmas.Grind.{common_steps}
use Rattle.cam_objects.specs.Attributes.{attribute_of, attribute_place}
use Rattle.cam_gerber.proofs.KeptAttributes.{grown, new_key}
use Rattle.cam_gerber.proofs.attributes.Attributes.push.Goals as goal

pub invariant_of-self-in-Ok : goal.invariant_of-self-in-Ok
invariant_of-self-in-Ok c =
    let list = c.self.inside.list.items in
    let keys = c.self.inside.names.keys in
    let key = c.in_ok-from_slice.field-0 in
    let is : key.items ≡ c.args.name.now = c.in_ok-from_slice.ensures.items in
    let none : attribute_place key.items list ≡ None = ap₂ attribute_place is c.self.view_is ∙ c.requires in
    grown list c.add.new.list.items keys c.insert.new.self.keys (attribute_of c.args.name.now c.args.fields.now) key c.self.invariant is
    c.in-Ok.ensures.ok
    (c.in_ok-insert.ensures.keys
    ∙ ap (λ b. cond b keys (keys ++ key ∷ [])) (new_key key.items keys list c.self.invariant none))

pub invariant_of-self-in-Err : goal.invariant_of-self-in-Err
invariant_of-self-in-Err c = grind (arith, common_steps)

pub returns-in-Ok : goal.returns-in-Ok
returns-in-Ok c = grind (arith)
