use Rattle.std.proofs.Common.{List, drop}
use Rattle.cam_units.specs.declared.point.Point.{Point}
use Rattle.cam_units.specs.Board.{IsOnBoard}
use Rattle.cam_shapes.specs.declared.segments.Seg.{Seg}
use Rattle.cam_tiles.proofs.TurnedContours.{TurnsBut, lines}
use Rattle.cam_tiles.proofs.TurnedMasks.{TurnsSo}
use Rattle.cam_tiles.proofs.masks.mask.Mask.fill_outline.Given as goal

-- the marks are turned over by all edges but those that are left
abbrev pub invariant-loop-point : goal.invariant-loop-point
invariant-loop-point l =
    let edges : List Point → List Seg = lines l.placing.turn l.placing.offset in
    record {
      on_board : IsOnBoard l.here;
      turned : TurnsBut (TurnsSo l.at) l.start l.here (edges (drop l.point-index l.others)) (edges l.others) l.initial.inside l.inside;
    }
