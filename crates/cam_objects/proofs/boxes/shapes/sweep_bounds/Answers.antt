use Rattle.std.proofs.Common.{sym, subst, arith, ◌∙◌}
use Rattle.cam_units.specs.Boxes.{join_of}
use Rattle.cam_apertures.specs.Primitives.{box_of_point}
use Rattle.cam_objects.specs.Bounds.{circle_square}
use Rattle.cam_objects.specs.Machinery.Boxes.{IsNearBox}
use Rattle.cam_objects.proofs.BoxLimits.{within_join, within_near}
use Rattle.cam_objects.proofs.SizedLeaves.{circle_within, ends_of_stroke, inner}
use Rattle.cam_objects.proofs.boxes.shapes.sweep_bounds.Goals as goal

pub widened-requires-clause-bounds : goal.widened-requires-clause-bounds
widened-requires-clause-bounds c =
    let s = c.args.stroke.now in
    let circle = circle_square s.centre s.from in
    let ends = join_of (box_of_point s.from) (box_of_point s.to) in
    subst IsNearBox (sym (c.joined.ensures.value ∙ (λ i. join_of (c.circle_square-circle.ensures i) (c.ends.ensures i))))
    (within_near inner (join_of circle ends) (omega arith)
    (within_join inner circle ends (circle_within s.centre s.from c.requires.centre c.requires.from)
    (ends_of_stroke s.from s.to c.requires.from c.requires.to)))

pub returns : goal.returns
returns c = grind arith
