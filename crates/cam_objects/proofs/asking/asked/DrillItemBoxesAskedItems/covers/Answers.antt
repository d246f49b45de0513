use Rattle.std.proofs.Common.{◌↔◌, ◌<◌, IsTrue, List, length, subst, sym, arith}
use Rattle.std.proofs.lemmas.List.{length-map}
use Rattle.cam_objects.specs.declared.drill_layer.DrillLayer.{DrillLayer}
use Rattle.cam_objects.specs.Drilling.{drill_item_leaves}
use Rattle.cam_objects.specs.Leaves.{Leaf}
use Rattle.cam_objects.specs.Topmost.{IsCoveredBy, drill_item_lists, leaves_at}
use Rattle.cam_objects.proofs.asking.asked.DrillItemBoxesAskedItems.covers.Goals as goal

pub item_covers-requires-clause-within : goal.item_covers-requires-clause-within
item_covers-requires-clause-within c =
    let layer = c.args.self.now in
    subst (λ (layer : DrillLayer). c.args.place < length layer.items.items) (sym c.layer.ensures.value)
    (omega (arith, c.requires.within, length-map {B = List Leaf} layer.items.items (drill_item_leaves layer.tools)))

pub returns : goal.returns
returns c =
    subst (λ (layer : DrillLayer). IsTrue c.item_covers.result
    ↔ IsCoveredBy (leaves_at (drill_item_lists layer.tools layer.items.items) c.args.place) c.args.at)
    c.layer.ensures.value c.item_covers.ensures

pub item_covers-requires-clause-sound : goal.item_covers-requires-clause-sound
item_covers-requires-clause-sound c = grind (arith)
