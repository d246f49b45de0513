use Rattle.std.proofs.Common.{◌↔◌, IsTrue, List, arith}
use Rattle.std.proofs.lemmas.List.{length-map}
use Rattle.cam_objects.specs.Drilling.{drill_item_leaves}
use Rattle.cam_objects.specs.Leaves.{Leaf}
use Rattle.cam_objects.specs.Topmost.{IsCoveredBy}
use Rattle.cam_objects.proofs.Covering.{at_place}
use Rattle.cam_objects.proofs.LastInks.{told_covered}
use Rattle.cam_objects.proofs.drill_layer.DrillLayer.item_covers.Goals as goal

pub returns : goal.returns
returns c =
    let layer = c.args.self.now in
    let paints = drill_item_leaves layer.tools in
    at_place paints layer.items.items c.args.place (λ (leaves : List Leaf). IsTrue c.is_decided.result ↔ IsCoveredBy leaves c.args.at)
    (omega (arith, c.requires.within, length-map {B = List Leaf} layer.items.items paints))
    (λ item is. told_covered (paints item) c.at-pixel.result c.paint_item.new.canvas c.args.at c.is_decided.result c.at-pixel.ensures
    (c.paint_item.ensures item is) c.is_decided.ensures)
