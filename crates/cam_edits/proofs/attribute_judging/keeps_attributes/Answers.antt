use Rattle.std.proofs.Common.{◌≡◌, ◌∙◌, ◌↔◌, List, ℕ, IsTrue, ap, refl, sym, subst}
use Rattle.std.proofs.lemmas.Option.{get_or_from_slice_get}
use Rattle.cam_objects.specs.Attributes.{AreAttributes, IsAttribute, attribute_of}
use Rattle.cam_objects.specs.Contents.{content_of}
use Rattle.cam_objects.specs.declared.attribute.Attribute.{Attribute}
use Rattle.cam_edits.specs.declared.step.Step.{Step}
use Rattle.cam_edits.specs.Machinery.PlaceLaws.{element_at}
use Rattle.cam_edits.specs.Steps.{IsFit, attributes_after}
use Rattle.cam_edits.proofs.KeptAttributes.{others_sound, put_sound, refilled_sound}
use Rattle.cam_edits.proofs.attribute_judging.keeps_attributes.Goals as goal

pub returns-in-PutAttribute : goal.returns-in-PutAttribute
returns-in-PutAttribute c =
    let xs = c.args.layer.now.attributes.items in
    let fit = subst (λ (s : Step). IsFit s (content_of c.args.layer.now)) c.in-PutAttribute.is c.requires.fits in
    let both = put_sound xs c.in-PutAttribute.k c.in-PutAttribute.attribute fit c.requires.sound in
    subst (λ (s : Step). IsTrue c.may_put.result ↔ AreAttributes (attributes_after s xs)) (sym c.in-PutAttribute.is)
    ((λ t. both.0 (c.may_put.ensures.0 t)), (λ h. c.may_put.ensures.1 (both.1 h)))

pub returns-in-SetFields : goal.returns-in-SetFields
returns-in-SetFields c =
    let xs = c.args.layer.now.attributes.items in
    let k = c.in-SetFields.k in
    let fit = subst (λ (s : Step). IsFit s (content_of c.args.layer.now)) c.in-SetFields.is c.requires.fits in
    let there = element_at xs k fit in
    let is : c.index.result.now ≡ there.0 = c.index.ensures ∙ get_or_from_slice_get xs k there.0 c.index.result.now there.1 in
    let both = refilled_sound xs k there.0 there.1 c.in-SetFields.fields c.requires.sound in
    let name = c.as_slice.ensures ∙ ap (λ (a : Attribute). a.name) is in
    let told =
    subst (λ (n : List ℕ). IsTrue c.is_attribute.result ↔ IsAttribute (attribute_of n c.in-SetFields.fields)) name
    (subst (λ (f : List ℕ). IsTrue c.is_attribute.result ↔ IsAttribute (attribute_of c.as_slice.result.now f))
    c.as_slice-in-SetFields.ensures c.is_attribute.ensures) in
    subst (λ (s : Step). IsTrue c.is_attribute.result ↔ AreAttributes (attributes_after s xs)) (sym c.in-SetFields.is)
    ((λ t. both.0 (told.0 t)), (λ h. told.1 (both.1 h)))

pub returns-in_default : goal.returns-in_default
returns-in_default c =
    let sound = others_sound (content_of c.args.layer.now) c.args.step.now c.requires.fits c.requires.sound
    c.in_default.not-PutAttribute c.in_default.not-SetFields in
    ((λ t. sound), (λ h. refl))
