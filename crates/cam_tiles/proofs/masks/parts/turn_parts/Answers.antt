use Rattle.std.proofs.Common.{◌≡◌, ◌+◌, List, drop, sym, ap, subst, ◌∙◌, arith}
use Rattle.std.proofs.lemmas.Grind.{common_steps}
use Rattle.std.specs.List.{All}
use Rattle.cam_units.specs.Board.{IsOnBoard}
use Rattle.cam_units.specs.declared.point.Point.{Point}
use Rattle.cam_shapes.specs.declared.segments.Seg.{Seg}
use Rattle.cam_shapes.specs.Contour.{IsSoundSeg}
use Rattle.cam_tiles.specs.declared.masks.heights.Heights.{Heights}
use Rattle.cam_tiles.specs.Machinery.Parts.{AreHeightsOf, behind_part, change_sides, end_from, first_part}
use Rattle.cam_tiles.proofs.ContourParts.{ends_on_board, next_heights, part_turned, rest_turned, sound_behind, sound_first}
use Rattle.cam_tiles.proofs.TurnedContours.{TurnsBut}
use Rattle.cam_tiles.proofs.TurnedMarks.{TurnsSo, marked_inside, still_wide, turning}
use Rattle.cam_tiles.proofs.masks.parts.turn_parts.Goals as goal

pub turn_met-here-requires-clause-part : goal.turn_met-here-requires-clause-part
turn_met-here-requires-clause-part c =
    subst (All IsSoundSeg) (sym c.split_part.ensures.first)
    (sound_first c.loop-part_heights.rest.now c.loop-part_heights.invariant.sound)

pub loop-part_heights-preserved : goal.loop-part_heights-preserved
loop-part_heights-preserved c =
    let f = c.args.field.now in
    let contour = c.args.contour.now in
    let here = c.loop-part_heights.here in
    let rest = c.loop-part_heights.rest.now in
    let so_far = c.loop-part_heights.invariant in
    let first = c.split_part.ensures.first in
    let behind = sym c.split_part.ensures.behind in
    let there = c.turn_met-here.result in
    let marks = c.turn_met-here.new.marks in
    let end : there ≡ end_from here (first_part rest) = c.turn_met-here.ensures.end ∙ ap (end_from here) first in
    let left : List Heights = drop (c.loop-part_heights.part_heights-index + 1) c.args.heights.now in
    let turned = subst (λ (part : List Seg). TurnsSo f (λ s. change_sides s here part) c.loop-part_heights.marks marks)
    first c.turn_met-here.ensures.turned in
    record {
      on_board = subst IsOnBoard (sym end)
          (ends_on_board here (first_part rest) so_far.on_board (sound_first rest so_far.sound));
      sound = subst (All IsSoundSeg) behind (sound_behind rest so_far.sound);
      wide = still_wide f.columns c.loop-part_heights.marks marks c.turn_met-here.auto.marks so_far.wide;
      heights = subst (λ (segs : List Seg). AreHeightsOf there segs left) behind
          (subst (λ (p : Point). AreHeightsOf p (behind_part rest) left) (sym end)
          (next_heights here rest c.args.heights.now c.loop-part_heights.part_heights-index
          c.args.field.now.rows c.loop-part_heights-test.true
          so_far.heights).1);
      turned = subst (λ (segs : List Seg). TurnsBut (TurnsSo f) contour.start there segs contour.segs c.args.marks.now marks)
          behind
          (part_turned (TurnsSo f) (turning f) contour.start here there rest contour.segs end so_far.turned turned);
    }

pub turn_edge-requires-clause-from : goal.turn_edge-requires-clause-from
turn_edge-requires-clause-from c =
    subst IsOnBoard (sym c.turn_part-end.ensures.end)
    (ends_on_board c.loop-part_heights.here c.loop-part_heights.rest.now c.loop-part_heights.invariant.on_board
    c.loop-part_heights.invariant.sound)

pub returns : goal.returns
returns c =
    let contour = c.args.contour.now in
    let here = c.loop-part_heights in
    marked_inside c.args.field.now contour c.args.marks.now c.turn_edge.new.marks
    (rest_turned (TurnsSo c.args.field.now) (turning c.args.field.now) contour.start here.here
    c.turn_part-end.result here.rest.now contour.segs c.turn_part-end.ensures.end here.invariant.turned
    c.turn_part-end.ensures.turned c.turn_edge.ensures)

pub loop-part_heights-init : goal.loop-part_heights-init
loop-part_heights-init c = grind (arith)

pub turn_met-here-requires-clause-heights : goal.turn_met-here-requires-clause-heights
turn_met-here-requires-clause-heights c = grind (arith, common_steps)
