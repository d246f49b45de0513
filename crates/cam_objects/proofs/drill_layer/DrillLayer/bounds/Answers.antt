use Rattle.std.proofs.Common.{◌∙◌, List, ap}
use Rattle.std.specs.List.{flat_map}
use Rattle.std.proofs.lemmas.List.Folds.{flat_map-map}
use Rattle.cam_objects.specs.declared.drill_layer.DrillLayer.{DrillLayer}
use Rattle.cam_objects.specs.Bounds.{bounds_of}
use Rattle.cam_objects.specs.Drilling.{drill_item_leaves}
use Rattle.cam_objects.specs.Leaves.{Leaf}
use Rattle.cam_objects.specs.Topmost.{drill_item_lists}
use Rattle.cam_objects.proofs.drill_layer.DrillLayer.bounds.Goals as goal

pub returns : goal.returns
returns c =
    let layer = c.args.self.now in
    c.whole_box.ensures
    ∙ ap (λ (l : DrillLayer). bounds_of (flat_map (λ (leaves : List Leaf). leaves) (drill_item_lists l.tools l.items.items))) c.boxes.ensures
    ∙ ap bounds_of (flat_map-map (λ (leaves : List Leaf). leaves) (drill_item_leaves layer.tools) layer.items.items)
