use Rattle.std.proofs.Common.{ap, sym, subst, ◌∙◌}
use Rattle.cam_objects.specs.Bounds.{moved}
use Rattle.cam_objects.specs.Machinery.Boxes.{IsNearBox}
use Rattle.cam_objects.proofs.MovedBounds.{drill_bounds_moved, near_drill_item}
use Rattle.cam_objects.proofs.drill_layer.DrillLayer.moved_bounds.Goals as goal

pub moved-requires-clause-bounds : goal.moved-requires-clause-bounds
moved-requires-clause-bounds c =
    subst IsNearBox (sym c.bounds_of.ensures)
    (near_drill_item c.args.self.now.tools c.args.item.now c.requires.sound.tools c.requires.item)

pub returns : goal.returns
returns c =
    c.moved.ensures
    ∙ ap (moved c.args.by) c.bounds_of.ensures
    ∙ sym (drill_bounds_moved c.args.self.now.tools c.args.by c.args.item.now)
