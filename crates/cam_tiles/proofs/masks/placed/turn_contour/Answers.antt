use Rattle.std.proofs.Common.{refl, subst, sym, arith}
use Rattle.cam_units.specs.Board.{IsOnBoard}
use Rattle.cam_shapes.specs.Placing.{placed_contour}
use Rattle.cam_shapes.proofs.Places.{offset_short}
use Rattle.cam_tiles.proofs.TurnedContours.{contour_turned, none_turned, placed, segment_turned}
use Rattle.cam_tiles.proofs.TurnedMarks.{TurnsSo, marked_inside, still_wide, turning}
use Rattle.cam_tiles.proofs.masks.placed.turn_contour.Goals as goal

pub point-start-requires-clause-offset : goal.point-start-requires-clause-offset
point-start-requires-clause-offset c =
    offset_short c.args.placing.turn c.args.placing.offset c.args.contour.now.start c.requires.contour.start

pub turn_placed-here-requires-clause-offset : goal.turn_placed-here-requires-clause-offset
turn_placed-here-requires-clause-offset c =
    offset_short c.args.placing.turn c.args.placing.offset c.args.contour.now.start c.requires.contour.start

pub loop-seg-init : goal.loop-seg-init
loop-seg-init c = record {
  on_board = subst IsOnBoard (sym c.point-start.ensures) c.requires.contour.start.there;
  wide = c.requires.wide;
  turned = none_turned (TurnsSo c.args.field.now) (turning c.args.field.now)
      c.point-start.result (placed c.args.placing.turn c.args.placing.offset c.as_slice-seg-items.result.now)
      c.args.marks.now;
}

pub loop-seg-preserved : goal.loop-seg-preserved
loop-seg-preserved c = record {
  on_board = c.turn_placed-here.ensures.board;
  wide = still_wide c.args.field.now.columns c.loop-seg.marks c.turn_placed-here.new.marks c.turn_placed-here.auto.marks
      c.loop-seg.invariant.wide;
  turned = segment_turned (TurnsSo c.args.field.now) (turning c.args.field.now)
      c.args.placing.turn c.args.placing.offset c.point-start.result c.loop-seg.here c.turn_placed-here.result
      _ c.as_slice-seg-items.result.now c.loop-seg.seg-index _ c.loop-seg-test.true
      refl c.turn_placed-here.ensures.end c.loop-seg.invariant.turned c.turn_placed-here.ensures.turned;
}

pub returns : goal.returns
returns c =
    marked_inside c.args.field.now
    (placed_contour c.args.placing.turn c.args.placing.offset c.args.contour.now) c.args.marks.now c.turn_edge.new.marks
    (contour_turned (TurnsSo c.args.field.now) (turning c.args.field.now)
    c.args.placing.turn c.args.placing.offset c.args.contour.now c.point-start.result c.loop-seg.here
    c.as_slice-seg-items.result.now c.loop-seg.seg-index c.loop-seg-test.false c.point-start.ensures
    c.as_slice-seg-items.ensures c.loop-seg.invariant.turned c.turn_edge.ensures)

pub turn_placed-here-requires-clause-seg : goal.turn_placed-here-requires-clause-seg
turn_placed-here-requires-clause-seg c = grind (arith)
