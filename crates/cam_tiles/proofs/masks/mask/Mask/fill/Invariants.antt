use Rattle.std.proofs.Common.{List, drop}
use Rattle.cam_units.specs.Board.{IsOnBoard}
use Rattle.cam_shapes.specs.declared.segments.Seg.{Seg}
use Rattle.cam_objects.specs.Leaves.{origin}
use Rattle.cam_tiles.proofs.TurnedContours.{TurnsBut, placed}
use Rattle.cam_tiles.proofs.TurnedMasks.{TurnsSo}
use Rattle.cam_tiles.proofs.masks.mask.Mask.fill.Given as goal

-- the marks are turned over by all segments but those that are left
abbrev pub invariant-loop-seg : goal.invariant-loop-seg
invariant-loop-seg l =
    let segs : List Seg → List Seg = placed l.placing.turn l.placing.offset in
    record {
      on_board : IsOnBoard l.here;
      turned : TurnsBut (TurnsSo origin.offset) l.start l.here (segs (drop l.seg-index l.seg-items)) (segs l.seg-items)
          l.initial.inside l.inside;
    }
