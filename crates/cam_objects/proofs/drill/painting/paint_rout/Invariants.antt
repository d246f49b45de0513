use Rattle.std.proofs.Common.{◌-◌, drop}
use Rattle.cam_objects.specs.Canvases.{Paints}
use Rattle.cam_objects.specs.Machinery.Slots.{slots_of}
use Rattle.cam_objects.proofs.drill.painting.paint_rout.Given as goal

-- the slots behind the point before this one are painted
abbrev pub invariant-loop-k : goal.invariant-loop-k
invariant-loop-k g l =
    let canvas = g.C.Canvas in
    Paints canvas.has canvas.place canvas.ink l.fn.canvas (slots_of l.diameter (drop (l.k - 1) l.points)) l.canvas
