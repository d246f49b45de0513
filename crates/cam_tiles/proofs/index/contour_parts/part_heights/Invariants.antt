use Rattle.std.proofs.Common.{drop}
use Rattle.cam_units.specs.Board.{IsOnBoard}
use Rattle.cam_tiles.proofs.ContourParts.{ChangeWithinBut}
use Rattle.cam_tiles.proofs.index.contour_parts.part_heights.Given as goal

abbrev pub invariant-loop-seg : goal.invariant-loop-seg
invariant-loop-seg l = record {
  on_board : IsOnBoard l.here;
  within : ChangeWithinBut l.heights l.fn.from l.here (drop l.seg-index l.part) l.part;
}
