use Rattle.std.proofs.Common.{◌+◌, length, sym, ◌∙◌, arith}
use Rattle.std.proofs.lemmas.Bool.Decides.{nat_tests}
use Rattle.cam_objects.specs.Attributes.{attribute_of}
use Rattle.cam_objects.proofs.EditedAttributes.{may_set, room_added, room_kept}
use Rattle.cam_objects.proofs.layer.Layer.check_attribute.Goals as goal

pub returns-in-Some : goal.returns-in-Some
returns-in-Some c =
    let a = attribute_of c.args.name.now c.args.fields.now in
    let xs = c.args.self.now.attributes.items in
    may_set xs a (length xs) _ (c.is_attribute.ensures.0 c.if-not-is_attribute.false)
    (room_kept a xs _ (sym c.attribute_place.ensures ∙ c.in-Some.is))
    (λ h. grind (arith, nat_tests)) (λ h. grind (arith, nat_tests))

pub returns-in-None : goal.returns-in-None
returns-in-None c =
    let a = attribute_of c.args.name.now c.args.fields.now in
    let xs = c.args.self.now.attributes.items in
    may_set xs a (length xs + 1) _ (c.is_attribute.ensures.0 c.if-not-is_attribute.false)
    (room_added a xs (sym c.attribute_place.ensures ∙ c.in-None.is))
    (λ h. grind (arith, nat_tests)) (λ h. grind (arith, nat_tests))
