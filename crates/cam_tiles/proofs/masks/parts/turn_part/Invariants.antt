use Rattle.std.proofs.Common.{◌≡◌, drop}
use Rattle.cam_units.specs.Board.{IsOnBoard}
use Rattle.cam_tiles.specs.Machinery.Parts.{end_from}
use Rattle.cam_tiles.specs.Machinery.Turning.{AreWide}
use Rattle.cam_tiles.proofs.ContourParts.{TurnsPartBut}
use Rattle.cam_tiles.proofs.TurnedMarks.{TurnsSo, turning}
use Rattle.cam_tiles.proofs.masks.parts.turn_part.Given as goal

-- the marks are turned over by all segments of the part but those that are left
abbrev pub invariant-loop-seg : goal.invariant-loop-seg
invariant-loop-seg l = record {
  on_board : IsOnBoard l.here;
  wide : AreWide l.field.columns l.marks;
  end : end_from l.here (drop l.seg-index l.part) ≡ end_from l.fn.from l.part;
  turned : TurnsPartBut (TurnsSo l.field) (turning l.field) l.fn.from l.here (drop l.seg-index l.part) l.part
      l.fn.marks l.marks;
}
