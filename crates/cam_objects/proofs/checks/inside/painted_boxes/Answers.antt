use Rattle.std.proofs.Common.{List, ap, sym, ◌∙◌, arith}
use Rattle.std.proofs.lemmas.Grind.{common_steps}
use Rattle.std.proofs.lemmas.List.{take_all}
use Rattle.cam_objects.specs.declared.object.Object.{Object}
use Rattle.cam_objects.specs.Bounds.{box_of_all}
use Rattle.cam_objects.specs.Leaves.{meaning_in, object_leaves, origin}
use Rattle.cam_objects.specs.Machinery.Facts.{points_bounds_of}
use Rattle.cam_objects.proofs.PaintedBoxes.{painted_all}
use Rattle.cam_objects.proofs.checks.inside.painted_boxes.Goals as goal

pub returns : goal.returns
returns c =
    let means = meaning_in c.args.entries.now in
    c.loop-object.invariant
    ∙ ap (λ (os : List Object). box_of_all (λ o. points_bounds_of (object_leaves means origin o)) os)
    (take_all c.loop-object.object-index c.args.objects.now (omega arith))
    ∙ sym (painted_all means c.args.objects.now)

pub loop-object-preserved : goal.loop-object-preserved
loop-object-preserved c = grind (arith, common_steps)
