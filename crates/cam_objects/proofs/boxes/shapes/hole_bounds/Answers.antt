use Rattle.std.proofs.Common.{refl, ap, ◌∙◌}
use Rattle.cam_objects.specs.Bounds.{widened}
use Rattle.cam_objects.proofs.boxes.shapes.hole_bounds.Goals as goal

pub returns : goal.returns
returns c = c.widened.ensures.even refl ∙ ap (widened c.args.hole.now.diameter.0) c.point_bounds.ensures
