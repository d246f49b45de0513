use Rattle.std.proofs.Common.{drop}
use Rattle.std.specs.List.{flat_map, range_with_len}
use Rattle.cam_objects.specs.Canvases.{Paints}
use Rattle.cam_objects.specs.Machinery.Repeats.{leaves_of_column}
use Rattle.cam_objects.proofs.paint.repeat.Repeat.paint.Given as goal

-- the columns from this one on are painted
abbrev pub invariant-loop-column : goal.invariant-loop-column
invariant-loop-column g l =
    let canvas = g.C.Canvas in
    Paints canvas.has canvas.place canvas.ink l.fn.canvas
    (flat_map (leaves_of_column l.self) (drop l.column (range_with_len 0 l.self.copies.columns))) l.canvas
