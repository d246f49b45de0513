use Rattle.std.proofs.Common.{drop}
use Rattle.std.specs.List.{All}
use Rattle.cam_units.specs.Board.{IsOnBoard}
use Rattle.cam_shapes.specs.Contour.{IsSoundSeg}
use Rattle.cam_tiles.specs.Machinery.Parts.{AreHeightsOf}
use Rattle.cam_tiles.specs.Machinery.Turning.{AreWide}
use Rattle.cam_tiles.proofs.TurnedContours.{TurnsBut}
use Rattle.cam_tiles.proofs.TurnedMarks.{TurnsSo}
use Rattle.cam_tiles.proofs.masks.parts.turn_parts.Given as goal

-- the marks are turned over by all segments but those that are left, of whose parts the other heights are
abbrev pub invariant-loop-part_heights : goal.invariant-loop-part_heights
invariant-loop-part_heights l = record {
  on_board : IsOnBoard l.here;
  sound : All IsSoundSeg l.rest;
  wide : AreWide l.field.columns l.marks;
  heights : AreHeightsOf l.here l.rest (drop l.part_heights-index l.heights);
  turned : TurnsBut (TurnsSo l.field) l.contour.start l.here l.rest l.contour.segs l.fn.marks l.marks;
}
