use Rattle.std.proofs.Common.{drop}
use Rattle.cam_objects.specs.Canvases.{Paints}
use Rattle.cam_objects.specs.Drilling.{drill_leaves}
use Rattle.cam_objects.proofs.drill_layer.DrillLayer.paint.Given as goal

-- the items from this one on are painted
abbrev pub invariant-loop-place : goal.invariant-loop-place
invariant-loop-place g l =
    let canvas = g.C.Canvas in
    Paints canvas.has canvas.place canvas.ink l.fn.canvas
    (drill_leaves l.self.tools (drop l.place l.self.items.items)) l.canvas
