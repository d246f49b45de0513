use Rattle.std.proofs.Common.{◌≡◌, drop, map}
use Rattle.cam_units.specs.Board.{IsOnBoard}
use Rattle.cam_shapes.specs.Outline.{lines_to}
use Rattle.cam_shapes.specs.Placing.{placed_seg}
use Rattle.cam_shapes.specs.Sides.{change_side, differ}
use Rattle.cam_shapes.proofs.outline.is_enclosed.Given as goal

abbrev pub invariant-loop-point : goal.invariant-loop-point
invariant-loop-point l = record {
  on_board : IsOnBoard l.here;
  side : differ l.inside (change_side l.spot l.start l.here (map (placed_seg l.placing.turn l.placing.offset)
      (lines_to (drop l.point-index l.others))))
      ≡ change_side l.spot l.start l.start (map (placed_seg l.placing.turn l.placing.offset) (lines_to l.others));
}
