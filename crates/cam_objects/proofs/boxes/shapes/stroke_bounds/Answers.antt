use Rattle.std.proofs.Common.{refl, ap, ◌∙◌, arith}
use Rattle.cam_objects.specs.Bounds.{widened}
use Rattle.cam_objects.proofs.BoxLimits.{within_near}
use Rattle.cam_objects.proofs.SizedLeaves.{ends_of_stroke, inner}
use Rattle.cam_objects.proofs.boxes.shapes.stroke_bounds.Goals as goal

pub widened-requires-clause-bounds : goal.widened-requires-clause-bounds
widened-requires-clause-bounds c = grind (arith, within_near, inner, ends_of_stroke)

pub returns : goal.returns
returns c = c.widened.ensures.even refl ∙ ap (widened c.args.stroke.now.width.0) c.ends.ensures
