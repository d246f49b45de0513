use Rattle.std.proofs.Common.{◌∙◌, List, map, ap, subst}
use Rattle.std.proofs.lemmas.Simd.{map-map}
use Rattle.cam_units.specs.declared.bounds.Bounds.{Bounds}
use Rattle.cam_objects.specs.declared.drill_layer.DrillLayer.{DrillLayer}
use Rattle.cam_objects.specs.Bounds.{bounds_of}
use Rattle.cam_objects.specs.Enclosed.{FindsEnclosed}
use Rattle.cam_objects.specs.Drilling.{drill_item_leaves}
use Rattle.cam_objects.specs.Topmost.{drill_item_lists}
use Rattle.cam_objects.proofs.drill_layer.DrillLayer.item_in.Goals as goal

pub returns : goal.returns
returns c =
    let layer = c.args.self.now in
    subst (λ (boxes : List Bounds). FindsEnclosed boxes c.args.outer c.args.from c.next_enclosed.result)
    (ap (λ (l : DrillLayer). map bounds_of (drill_item_lists l.tools l.items.items)) c.boxes.ensures
    ∙ map-map bounds_of (drill_item_leaves layer.tools) layer.items.items) c.next_enclosed.ensures
