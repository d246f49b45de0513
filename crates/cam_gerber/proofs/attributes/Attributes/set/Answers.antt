use Rattle.std.proofs.Common.{arith, ◌≡◌, Some, ap, ap₂, sym, ◌∙◌}
use Rattle.cam_objects.specs.Attributes.{attribute_of, attribute_place, with_attribute}
use Rattle.cam_objects.proofs.EditedAttributes.{added_last, kept_place}
use Rattle.cam_gerber.proofs.KeptAttributes.{kept_names, named_at}
use Rattle.cam_gerber.proofs.attributes.Attributes.set.Goals as goal

at : (c : goal.After-drop-index_mut) → attribute_place c.args.name.now c.self.inside.list.items ≡ Some c.in-Some.place
at c = ap (attribute_place c.args.name.now) c.self.view_is ∙ sym c.place.ensures ∙ c.in-Some.is

named : (c : goal.After-drop-index_mut) → c.index_mut.result.now.name ≡ c.args.name.now
named c = grind (arith, named_at, at)

pub invariant_of-self : goal.invariant_of-self
invariant_of-self c =
    let list = c.self.inside.list.items in
    c.self.invariant
    ∙ sym (kept_names (attribute_of c.index_mut.result.now.name c.from_vec.result) list c.in-Some.place
    (ap (λ name. attribute_place name list) (named c) ∙ at c))

pub returns-in_ok-from_slice-in-Some : goal.returns-in_ok-from_slice-in-Some
returns-in_ok-from_slice-in-Some c =
    let list = c.self.inside.list.items in
    sym (kept_place (attribute_of c.index_mut.result.now.name c.from_vec.result) list c.in-Some.place
    (ap (λ name. attribute_place name list) (named c) ∙ at c))
    ∙ ap₂ with_attribute (ap₂ attribute_of (named c) (c.from_vec.ensures ∙ c.in_ok-from_slice-in-Some.ensures.items)) c.self.view_is

pub returns-in-None : goal.returns-in-None
returns-in-None c = grind (arith, added_last)
