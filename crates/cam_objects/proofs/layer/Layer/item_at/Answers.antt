use Rattle.std.proofs.Common.{◌∙◌, List, IfSome, map, ap, sym, subst}
use Rattle.std.proofs.lemmas.Simd.{map-map}
use Rattle.cam_units.specs.declared.bounds.Bounds.{Bounds}
use Rattle.cam_objects.specs.declared.layer.Layer.{Layer}
use Rattle.cam_objects.specs.Bounds.{bounds_of}
use Rattle.cam_objects.specs.Cells.{AreCellsOf}
use Rattle.cam_objects.specs.Leaves.{item_leaves, meaning_in}
use Rattle.cam_objects.specs.Topmost.{PointsAt, item_lists}
use Rattle.cam_objects.proofs.layer.Layer.item_at.Goals as goal

pub topmost-requires-clause-cells : goal.topmost-requires-clause-cells
topmost-requires-clause-cells c =
    let layer = c.args.self.now in
    subst (λ (boxes : List Bounds). IfSome c.args.cells (λ kept. AreCellsOf boxes kept.now))
    (sym (map-map bounds_of (item_leaves (meaning_in layer.apertures)) layer.items.items)
    ∙ ap (λ (l : Layer). map bounds_of (item_lists l.apertures l.items.items)) (sym c.boxes.ensures)) c.requires.cells

pub returns : goal.returns
returns c =
    subst (λ (l : Layer). PointsAt (item_lists l.apertures l.items.items) c.args.at c.args.before c.topmost.result) c.boxes.ensures
    c.topmost.ensures
