use Rattle.std.proofs.Common.{◌≡◌, ◌-◌, drop, subst, arith}
use Rattle.std.proofs.lemmas.Grind.{common_steps}
use Rattle.cam_objects.specs.Canvases.{Paints}
use Rattle.cam_objects.specs.Drilling.{drill_item_leaves, drill_leaves}
use Rattle.cam_objects.proofs.Canvases.{paints_listed}
use Rattle.cam_objects.proofs.drill_layer.DrillLayer.paint.Goals as goal

pub loop-place-preserved : goal.loop-place-preserved
loop-place-preserved g c =
    let canvas = g.C.Canvas in
    let layer = c.args.self.now in
    paints_listed canvas.has canvas.place canvas.ink (drill_item_leaves layer.tools) layer.items.items
    (c.loop-place.place - 1) c.loop-place.place _ _ _ (omega arith) (omega arith) c.loop-place.invariant c.paint_item.ensures

pub returns : goal.returns
returns g c =
    let canvas = g.C.Canvas in
    let layer = c.args.self.now in
    let first : c.loop-place.place ≡ 0 = omega arith in
    subst (λ k. Paints canvas.has canvas.place canvas.ink c.args.canvas.now
    (drill_leaves layer.tools (drop k layer.items.items)) c.loop-place.canvas) first c.loop-place.invariant

pub loop-place-init : goal.loop-place-init
loop-place-init c = grind (arith, common_steps)
