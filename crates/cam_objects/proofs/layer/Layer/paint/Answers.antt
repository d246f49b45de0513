use Rattle.std.proofs.Common.{◌-◌, arith}
use Rattle.std.proofs.lemmas.Grind.{common_steps}
use Rattle.cam_objects.specs.Leaves.{item_leaves, meaning_in}
use Rattle.cam_objects.proofs.Canvases.{paints_listed}
use Rattle.cam_objects.proofs.layer.Layer.paint.Goals as goal

pub loop-place-preserved : goal.loop-place-preserved
loop-place-preserved g c =
    let canvas = g.C.Canvas in
    let layer = c.args.self.now in
    paints_listed canvas.has canvas.place canvas.ink (item_leaves (meaning_in layer.apertures)) layer.items.items
    (c.loop-place.place - 1) c.loop-place.place _ _ _ (omega arith) (omega arith) c.loop-place.invariant c.paint_item.ensures

pub returns : goal.returns
returns g c = grind arith

pub loop-place-init : goal.loop-place-init
loop-place-init c = grind (arith, common_steps)
