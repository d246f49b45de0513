use Rattle.std.proofs.Common.{List, drop}
use Rattle.cam_units.specs.declared.point.Point.{Point}
use Rattle.cam_units.specs.Board.{IsOnBoard}
use Rattle.cam_shapes.specs.declared.segments.Seg.{Seg}
use Rattle.cam_tiles.specs.Machinery.Turning.{AreWide}
use Rattle.cam_tiles.proofs.TurnedContours.{TurnsBut, lines}
use Rattle.cam_tiles.proofs.TurnedMarks.{TurnsSo}
use Rattle.cam_tiles.proofs.masks.placed.turn_outline.Given as goal

-- the marks are turned over by all edges but those that are left
abbrev pub invariant-loop-point : goal.invariant-loop-point
invariant-loop-point l =
    let edges : List Point → List Seg = lines l.placing.turn l.placing.offset in
    record {
      on_board : IsOnBoard l.here;
      wide : AreWide l.field.columns l.marks;
      turned : TurnsBut (TurnsSo l.field) l.start l.here (edges (drop l.point-index l.others)) (edges l.others)
          l.fn.marks l.marks;
    }
