use Rattle.std.proofs.Common.{◌∙◌, List, IfSome, map, ap, sym, subst}
use Rattle.std.proofs.lemmas.Simd.{map-map}
use Rattle.cam_units.specs.declared.bounds.Bounds.{Bounds}
use Rattle.cam_objects.specs.declared.drill_layer.DrillLayer.{DrillLayer}
use Rattle.cam_objects.specs.Bounds.{bounds_of}
use Rattle.cam_objects.specs.Cells.{AreCellsOf}
use Rattle.cam_objects.specs.Drilling.{drill_item_leaves}
use Rattle.cam_objects.specs.Topmost.{PointsAt, drill_item_lists}
use Rattle.cam_objects.proofs.drill_layer.DrillLayer.item_at.Goals as goal

pub topmost-requires-clause-cells : goal.topmost-requires-clause-cells
topmost-requires-clause-cells c =
    let layer = c.args.self.now in
    subst (λ (boxes : List Bounds). IfSome c.args.cells (λ kept. AreCellsOf boxes kept.now))
    (sym (map-map bounds_of (drill_item_leaves layer.tools) layer.items.items)
    ∙ ap (λ (l : DrillLayer). map bounds_of (drill_item_lists l.tools l.items.items)) (sym c.boxes.ensures)) c.requires.cells

pub returns : goal.returns
returns c =
    subst (λ (l : DrillLayer). PointsAt (drill_item_lists l.tools l.items.items) c.args.at c.args.before c.topmost.result) c.boxes.ensures
    c.topmost.ensures
