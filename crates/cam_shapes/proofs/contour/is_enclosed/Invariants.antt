use Rattle.std.proofs.Common.{◌≡◌, drop, map}
use Rattle.cam_units.specs.Board.{IsOnBoard}
use Rattle.cam_shapes.specs.Placing.{placed_seg}
use Rattle.cam_shapes.specs.Sides.{change_side, differ}
use Rattle.cam_shapes.proofs.contour.is_enclosed.Given as goal

abbrev pub invariant-loop-seg : goal.invariant-loop-seg
invariant-loop-seg l = record {
  on_board : IsOnBoard l.here;
  side : differ l.inside
      (change_side l.spot l.start l.here (map (placed_seg l.placing.turn l.placing.offset) (drop l.seg-index l.segs)))
      ≡ change_side l.spot l.start l.start (map (placed_seg l.placing.turn l.placing.offset) l.segs);
}
