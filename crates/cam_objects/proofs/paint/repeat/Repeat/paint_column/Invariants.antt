use Rattle.std.proofs.Common.{drop}
use Rattle.std.specs.List.{flat_map, range_with_len}
use Rattle.cam_objects.specs.Canvases.{Paints}
use Rattle.cam_objects.specs.Machinery.Repeats.{leaves_of_copy}
use Rattle.cam_objects.proofs.paint.repeat.Repeat.paint_column.Given as goal

-- the rows from this one on are painted
abbrev pub invariant-loop-row : goal.invariant-loop-row
invariant-loop-row g l =
    let canvas = g.C.Canvas in
    Paints canvas.has canvas.place canvas.ink l.fn.canvas
    (flat_map (leaves_of_copy l.self l.column) (drop l.row (range_with_len 0 l.self.copies.rows))) l.canvas
