use Rattle.std.proofs.Common.{arith, ◌-◌, List, length, take, drop, sym, subst, ◌∙◌}
use Rattle.std.proofs.lemmas.List.Elements.{All-drop, All-take}
use Rattle.cam_units.specs.Board.{IsOnBoard}
use Rattle.cam_units.specs.declared.point.Point.{Point}
use Rattle.cam_units.specs.declared.point.Spot.{Spot}
use Rattle.cam_shapes.specs.Contour.{IsInContour}
use Rattle.cam_shapes.specs.Outline.{outline_of}
use Rattle.cam_shapes.specs.Placing.{IsPlaceablePoint, placed_contour}
use Rattle.cam_objects.specs.Image.{relative}
use Rattle.cam_objects.specs.Leaves.{origin}
use Rattle.cam_tiles.specs.Machinery.Masks.{Turns}
use Rattle.cam_tiles.proofs.Joined.{joined_none, merges_shown}
use Rattle.cam_tiles.proofs.TurnedContours.{lines, lines_turned, no_outline, none_turned, outline_turned, point_turned}
use Rattle.cam_tiles.proofs.TurnedMasks.{TurnsSo, shows_turned, turned_inside, turning}
use Rattle.cam_tiles.proofs.masks.mask.Mask.fill_outline.Goals.{After-turn_edge-2}
use Rattle.cam_tiles.proofs.masks.mask.Mask.fill_outline.Goals as goal

-- the points behind the first one
abbrev rest : List Point → List Point
rest points = take (length points - 1) (drop 1 points)

pub loop-point-init : goal.loop-point-init
loop-point-init c = grind (arith, none_turned, TurnsSo, turning, lines)

pub loop-point-preserved : goal.loop-point-preserved
loop-point-preserved c =
    let IsPlaceable = IsPlaceablePoint c.args.turn origin.offset in
    let others = All-take IsPlaceable _ _ (All-drop IsPlaceable 1 c.args.points.now c.requires.points) in
    record {
      on_board = subst IsOnBoard (sym c.point-next.ensures)
          (others c.loop-point.point-index _ c.loop-point-test.true).there;
      turned = point_turned (TurnsSo c.args.at) (turning c.args.at) c.args.turn origin.offset c.point-start.result
          c.loop-point.here c.point-next.result (rest c.args.points.now) c.loop-point.point-index _ c.loop-point-test.true
          c.point-next.ensures c.loop-point.invariant.turned c.turn_edge.ensures;
    }

inside : (c : After-turn_edge-2) → Turns (λ s. IsInContour (relative c.args.at s)
    (placed_contour c.args.turn origin.offset (outline_of c.args.points.now))) c.blank-inside.result c.turn_edge-2.new.self
inside c =
    turned_inside c.args.at (placed_contour c.args.turn origin.offset (outline_of c.args.points.now))
    c.blank-inside.result c.turn_edge-2.new.self
    (outline_turned (TurnsSo c.args.at) (turning c.args.at) c.args.turn _ c.args.points.now _ c.point-start.result
    c.in-len1-up.len_at_least c.point-start.ensures
    (lines_turned (TurnsSo c.args.at) (turning c.args.at) c.args.turn origin.offset c.point-start.result
    c.loop-point.here (rest c.args.points.now) c.loop-point.point-index c.loop-point-test.false
    c.loop-point.invariant.turned c.turn_edge-2.ensures))

pub merge-requires : goal.merge-requires
merge-requires c = grind (arith, inside)

pub returns : goal.returns
returns c =
    let P : Spot → Type 0 = λ s.
    IsInContour (relative c.args.at s) (placed_contour c.args.turn origin.offset (outline_of c.args.points.now)) in
    let turned = inside (goal.at.returns c).After-turn_edge-2 in
    merges_shown c.args.how P c.turn_edge-2.new.self c.args.self.now c.merge.new.self
    (turned.grid ∙ c.blank-inside.ensures.grid ∙ c.grid.ensures.value)
    (shows_turned P c.blank-inside.result c.turn_edge-2.new.self c.blank-inside.ensures.marks turned) c.merge.ensures

pub returns-in_default : goal.returns-in_default
returns-in_default c = grind (arith, joined_none, no_outline)

pub turn_edge-requires-2-clause-to : goal.turn_edge-requires-2-clause-to
turn_edge-requires-2-clause-to c = grind (arith)
