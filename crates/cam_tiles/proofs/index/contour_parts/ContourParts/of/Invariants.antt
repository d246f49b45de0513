use Rattle.std.proofs.Common.{length}
use Rattle.std.specs.List.{All}
use Rattle.cam_units.specs.Board.{IsOnBoard}
use Rattle.cam_shapes.specs.Contour.{IsSoundSeg}
use Rattle.cam_tiles.proofs.ContourParts.{AreFoundBut}
use Rattle.cam_tiles.proofs.index.contour_parts.ContourParts.of.Given as goal

-- the heights of all parts are found but those of the segments that are left
abbrev pub invariant-loop-rest : goal.invariant-loop-rest
invariant-loop-rest l = record {
  on_board : IsOnBoard l.here;
  sound : All IsSoundSeg l.rest;
  found : AreFoundBut l.contour.start l.here l.rest l.contour.segs l.heights.items;
}

abbrev pub decreases-loop-rest : goal.decreases-loop-rest
decreases-loop-rest l = length l.rest
