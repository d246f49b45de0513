use Rattle.std.proofs.Common.{◌≡◌, ℕ, List, None, Some, ap, sym, ◌∙◌}
use Rattle.cam_objects.specs.Attributes.{attribute_of, attribute_place}
use Rattle.cam_objects.proofs.EditedAttributes.{added_last, kept_place}
use Rattle.cam_objects.proofs.layer.Layer.set_attribute.Goals as goal

pub returns-in-Some-clause-ok : goal.returns-in-Some-clause-ok
returns-in-Some-clause-ok c =
    let xs = c.args.self.now.attributes.items in
    let at : attribute_place c.args.name xs ≡ Some c.in-Some.place =
    ap (λ (n : List ℕ). attribute_place n xs) (sym c.as_slice.ensures) ∙ sym c.attribute_place-place.ensures ∙ c.in-Some.is in
    sym (kept_place (attribute_of c.args.name c.args.fields) xs c.in-Some.place at)

pub returns-in_ok-push-in-None-clause-ok : goal.returns-in_ok-push-in-None-clause-ok
returns-in_ok-push-in-None-clause-ok c =
    let xs = c.args.self.now.attributes.items in
    let at : attribute_place c.args.name xs ≡ None =
    ap (λ (n : List ℕ). attribute_place n xs) (sym c.as_slice.ensures) ∙ sym c.attribute_place-place.ensures ∙ c.in-None.is in
    c.in_ok-push-in-None.ensures.items ∙ sym (added_last (attribute_of c.args.name c.args.fields) xs at)
