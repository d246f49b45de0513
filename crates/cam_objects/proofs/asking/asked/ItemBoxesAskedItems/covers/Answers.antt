use Rattle.std.proofs.Common.{◌↔◌, IsTrue, subst, arith}
use Rattle.std.proofs.lemmas.List.{length-map}
use Rattle.cam_objects.specs.declared.layer.Layer.{Layer}
use Rattle.cam_objects.specs.Topmost.{IsCoveredBy, item_lists, leaves_at}
use Rattle.cam_objects.proofs.asking.asked.ItemBoxesAskedItems.covers.Goals as goal

pub item_covers-requires-clause-within : goal.item_covers-requires-clause-within
item_covers-requires-clause-within c = grind (arith, length-map)

pub returns : goal.returns
returns c =
    subst (λ (layer : Layer). IsTrue c.item_covers.result
    ↔ IsCoveredBy (leaves_at (item_lists layer.apertures layer.items.items) c.args.place) c.args.at)
    c.layer.ensures.value c.item_covers.ensures

pub item_covers-requires-clause-sound : goal.item_covers-requires-clause-sound
item_covers-requires-clause-sound c = grind (arith)
