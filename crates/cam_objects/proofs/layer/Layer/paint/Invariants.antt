use Rattle.std.proofs.Common.{drop}
use Rattle.cam_objects.specs.Canvases.{Paints}
use Rattle.cam_objects.specs.Leaves.{leaves_of}
use Rattle.cam_objects.proofs.layer.Layer.paint.Given as goal

-- the items from this one on are painted
abbrev pub invariant-loop-place : goal.invariant-loop-place
invariant-loop-place g l =
    let canvas = g.C.Canvas in
    Paints canvas.has canvas.place canvas.ink l.fn.canvas
    (leaves_of l.self.apertures (drop l.place l.self.items.items)) l.canvas
