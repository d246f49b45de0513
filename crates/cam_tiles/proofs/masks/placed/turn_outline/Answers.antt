use Rattle.std.proofs.Common.{◌-◌, List, length, take, drop, sym, subst, arith}
use Rattle.std.proofs.lemmas.List.Elements.{All-drop, All-take}
use Rattle.cam_units.specs.Board.{IsOnBoard}
use Rattle.cam_units.specs.declared.point.Point.{Point}
use Rattle.cam_shapes.specs.Outline.{outline_of}
use Rattle.cam_shapes.specs.Placing.{IsPlaceablePoint, placed_contour}
use Rattle.cam_objects.specs.Leaves.{origin}
use Rattle.cam_tiles.proofs.TurnedContours.{empty_turned, lines, lines_turned, none_turned, outline_turned, point_turned}
use Rattle.cam_tiles.proofs.TurnedMarks.{TurnsSo, marked_inside, still_wide, turning}
use Rattle.cam_tiles.proofs.masks.placed.turn_outline.Goals as goal

-- the points behind the first one
abbrev rest : List Point → List Point
rest points = take (length points - 1) (drop 1 points)

pub loop-point-init : goal.loop-point-init
loop-point-init c = record {
  on_board = subst IsOnBoard (sym c.point-start.ensures) (c.requires.points 0 _ c.in-len1-up.len_at_least).there;
  wide = c.requires.wide;
  turned = none_turned (TurnsSo c.args.field.now) (turning c.args.field.now) c.point-start.result
      (lines c.args.turn origin.offset (rest c.args.points.now)) c.args.marks.now;
}

pub loop-point-preserved : goal.loop-point-preserved
loop-point-preserved c =
    let IsPlaceable = IsPlaceablePoint c.args.turn origin.offset in
    let others = All-take IsPlaceable _ _ (All-drop IsPlaceable 1 c.args.points.now c.requires.points) in
    record {
      on_board = subst IsOnBoard (sym c.point-next.ensures)
          (others c.loop-point.point-index _ c.loop-point-test.true).there;
      wide = still_wide c.args.field.now.columns c.loop-point.marks c.turn_line.new.marks c.turn_line.auto.marks
          c.loop-point.invariant.wide;
      turned = point_turned (TurnsSo c.args.field.now) (turning c.args.field.now) c.args.turn origin.offset c.point-start.result
          c.loop-point.here c.point-next.result (rest c.args.points.now) c.loop-point.point-index _ c.loop-point-test.true
          c.point-next.ensures c.loop-point.invariant.turned c.turn_line.ensures;
    }

pub returns : goal.returns
returns c =
    let f = c.args.field.now in
    marked_inside f (placed_contour c.args.turn origin.offset (outline_of c.args.points.now)) c.args.marks.now
    c.turn_edge.new.marks
    (outline_turned (TurnsSo f) (turning f) c.args.turn _ c.args.points.now _ c.point-start.result c.in-len1-up.len_at_least
    c.point-start.ensures
    (lines_turned (TurnsSo f) (turning f) c.args.turn origin.offset c.point-start.result c.loop-point.here
    (rest c.args.points.now) c.loop-point.point-index c.loop-point-test.false c.loop-point.invariant.turned c.turn_edge.ensures))

pub returns-in_default : goal.returns-in_default
returns-in_default c =
    marked_inside c.args.field.now (placed_contour c.args.turn origin.offset (outline_of c.args.points.now))
    c.args.marks.now c.args.marks.now
    (empty_turned (TurnsSo c.args.field.now) (turning c.args.field.now) c.args.turn origin.offset
    c.args.points.now c.args.marks.now c.in_default.len_below)

pub turn_edge-requires-clause-to : goal.turn_edge-requires-clause-to
turn_edge-requires-clause-to c = grind (arith)
