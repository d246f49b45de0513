use Rattle.std.proofs.Common.{rules, ◌-◌, arith}
use Rattle.cam_objects.proofs.Canvases.{sound_print}
use Rattle.cam_objects.proofs.PaintedLists.{paints_no_slot, paints_rout, paints_slot}
use Rattle.cam_objects.proofs.drill.painting.paint_rout.Goals as goal

pub loop-k-init : goal.loop-k-init
loop-k-init g c = search (rules, paints_no_slot)

pub paint_leaf-requires : goal.paint_leaf-requires
paint_leaf-requires g c =
    sound_print _ (record {
      from = c.requires.points (c.loop-k.k - 1 - 1) _ (omega arith);
      to = c.requires.points (c.loop-k.k - 1) _ (omega arith);
      width = c.requires.diameter;
    })
    c.stroke_bounds.ensures

pub loop-k-preserved : goal.loop-k-preserved
loop-k-preserved g c =
    let canvas = g.C.Canvas in
    paints_slot canvas.has canvas.place canvas.ink _ _ _ c.args.diameter c.args.points.now
    (c.loop-k.k - 1 - 1) (c.loop-k.k - 1) _ (omega arith) (omega arith) c.loop-k.invariant c.paint_leaf.ensures

pub returns : goal.returns
returns g c = grind (arith, paints_rout)

pub returns-then-points-eq1 : goal.returns-then-points-eq1
returns-then-points-eq1 c = grind (arith)

pub stroke_bounds-requires : goal.stroke_bounds-requires
stroke_bounds-requires c = grind (arith)
