use Rattle.std.proofs.Common.{ap, sym, subst, ◌∙◌}
use Rattle.cam_objects.specs.Bounds.{moved}
use Rattle.cam_objects.specs.Machinery.Boxes.{IsNearBox}
use Rattle.cam_objects.proofs.MovedBounds.{item_bounds_moved, near_item}
use Rattle.cam_objects.proofs.layer.Layer.moved_bounds.Goals as goal

pub moved-requires-clause-bounds : goal.moved-requires-clause-bounds
moved-requires-clause-bounds c =
    subst IsNearBox (sym c.bounds_of.ensures)
    (near_item c.args.self.now.apertures c.args.item.now c.soundness.ensures c.requires.item)

pub returns : goal.returns
returns c =
    c.moved.ensures
    ∙ ap (moved c.args.by) c.bounds_of.ensures
    ∙ sym (item_bounds_moved c.args.self.now.apertures c.args.by c.args.item.now)
