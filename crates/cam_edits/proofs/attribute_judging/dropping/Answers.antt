use Rattle.std.proofs.Common.{◌≡◌, true, Some, arith}
use Rattle.cam_objects.specs.Attributes.{attribute_place}
use Rattle.cam_objects.specs.Contents.{content_of}
use Rattle.cam_edits.specs.AttributeEdits.{is_key}
use Rattle.cam_edits.proofs.AttributeSteps.{dropped}
use Rattle.cam_edits.proofs.attribute_judging.dropping.Goals as goal

pub returns-in-Some-clause-value : goal.returns-in-Some-clause-value
returns-in-Some-clause-value c =
    let good : is_key c.args.key.now ≡ true = cc in
    let at : Some c.in-Some.k ≡ attribute_place c.args.key.now c.args.layer.now.attributes.items = cc in
    dropped (content_of c.args.layer.now) c.args.key.now good c.in-Some.k at

pub returns-in-Some-clause-fits : goal.returns-in-Some-clause-fits
returns-in-Some-clause-fits c = grind (arith)

pub returns-then-not-is_key-clause-value : goal.returns-then-not-is_key-clause-value
returns-then-not-is_key-clause-value c = grind (arith)

pub returns-in-None-clause-value : goal.returns-in-None-clause-value
returns-in-None-clause-value c = grind (arith)
