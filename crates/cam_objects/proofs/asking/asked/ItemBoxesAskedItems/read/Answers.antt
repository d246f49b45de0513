use Rattle.std.proofs.Common.{◌≡◌, List, arith}
use Rattle.std.proofs.lemmas.Grind.{common_steps}
use Rattle.std.proofs.lemmas.List.{length-map}
use Rattle.cam_objects.specs.Bounds.{bounds_of}
use Rattle.cam_objects.specs.Leaves.{Leaf, item_leaves, meaning_in}
use Rattle.cam_objects.proofs.Covering.{at_place}
use Rattle.cam_objects.proofs.asking.asked.ItemBoxesAskedItems.read.Goals as goal

pub returns-clause-value : goal.returns-clause-value
returns-clause-value c =
    let layer = c.args.self.now in
    at_place (item_leaves (meaning_in layer.apertures)) layer.items.items c.args.place
    (λ (leaves : List Leaf). c.read.result ≡ bounds_of leaves)
    (omega (arith, c.requires, length-map {B = List Leaf} layer.items.items (item_leaves (meaning_in layer.apertures)))) c.read.ensures.value

pub read-requires : goal.read-requires
read-requires c = grind (arith, common_steps)

pub returns-clause-list : goal.returns-clause-list
returns-clause-list c = grind (arith, common_steps)
