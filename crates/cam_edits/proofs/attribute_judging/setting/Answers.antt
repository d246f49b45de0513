use Rattle.std.proofs.Common.{◌≡◌, ◌∙◌, ap, sym, length, Ok, arith}
use Rattle.cam_objects.specs.Attributes.{attribute_of, attribute_place}
use Rattle.cam_objects.specs.Contents.{content_of}
use Rattle.cam_edits.specs.AttributeEdits.{are_fields, is_key}
use Rattle.cam_edits.specs.declared.step.Step.TheVariants.{PutAttribute}
use Rattle.cam_edits.proofs.AttributeSteps.{filled, put, too_many}
use Rattle.cam_edits.proofs.attribute_judging.setting.Goals as goal

pub returns-in-Some-clause-value : goal.returns-in-Some-clause-value
returns-in-Some-clause-value c =
    let good = sym (c.if-not-is_key.ensures ∙ ap is_key c.as_slice.ensures) in
    let wrote = sym (c.if-not-are_fields.ensures ∙ ap are_fields c.as_slice-2.ensures) in
    let at = c.in-Some.ensures ∙ ap (λ name. attribute_place name c.args.layer.now.attributes.items) c.as_slice-3.ensures in
    filled (content_of c.args.layer.now) c.args.key c.args.fields good wrote c.in-Some.k at c.requires.attributes

pub returns-then-k-ge-ATTRIBUTE_LIMIT-clause-value : goal.returns-then-k-ge-ATTRIBUTE_LIMIT-clause-value
returns-then-k-ge-ATTRIBUTE_LIMIT-clause-value c =
    let good = sym (c.if-not-is_key.ensures ∙ ap is_key c.as_slice.ensures) in
    let wrote = sym (c.if-not-are_fields.ensures ∙ ap are_fields c.as_slice-2.ensures) in
    let at = c.in_default.ensures ∙ ap (λ name. attribute_place name c.args.layer.now.attributes.items) c.as_slice-3.ensures in
    let layer = c.args.layer.now in
    too_many (content_of layer) c.args.key c.args.fields good wrote at (omega (arith, layer.attributes.ok.0))

pub returns-clause-value : goal.returns-clause-value
returns-clause-value c =
    let good = sym (c.if-not-is_key.ensures ∙ ap is_key c.as_slice.ensures) in
    let wrote = sym (c.if-not-are_fields.ensures ∙ ap are_fields c.as_slice-2.ensures) in
    let at = c.in_default.ensures ∙ ap (λ name. attribute_place name c.args.layer.now.attributes.items) c.as_slice-3.ensures in
    let layer = c.args.layer.now in
    let n : c.len-k.result ≡ length layer.attributes.items = omega (arith, layer.attributes.ok.0) in
    ap (λ k. Ok (PutAttribute k (attribute_of c.args.key c.args.fields))) n
    ∙ put (content_of layer) c.args.key c.args.fields good wrote at (omega (arith, layer.attributes.ok.0))

pub returns-then-not-is_key-clause-value : goal.returns-then-not-is_key-clause-value
returns-then-not-is_key-clause-value c = grind (arith)

pub returns-then-not-are_fields-clause-value : goal.returns-then-not-are_fields-clause-value
returns-then-not-are_fields-clause-value c = grind (arith)

pub returns-in-Some-clause-fits : goal.returns-in-Some-clause-fits
returns-in-Some-clause-fits c = grind (arith)
