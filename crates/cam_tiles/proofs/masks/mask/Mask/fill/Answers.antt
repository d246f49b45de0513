use Rattle.std.proofs.Common.{arith, ◌∙◌}
use Rattle.cam_units.specs.declared.point.Spot.{Spot}
use Rattle.cam_shapes.specs.Contour.{IsInContour}
use Rattle.cam_shapes.specs.Placing.{placed_contour}
use Rattle.cam_shapes.proofs.Places.{offset_short}
use Rattle.cam_objects.specs.Image.{relative}
use Rattle.cam_objects.specs.Leaves.{origin}
use Rattle.cam_tiles.specs.Machinery.Masks.{Turns}
use Rattle.cam_tiles.proofs.Joined.{merges_shown, seen_itself, shows_like}
use Rattle.cam_tiles.proofs.TurnedContours.{contour_turned, none_turned, placed, segment_turned}
use Rattle.cam_tiles.proofs.TurnedMasks.{TurnsSo, shows_turned, turned_inside, turning}
use Rattle.cam_tiles.proofs.masks.mask.Mask.fill.Goals.{After-turn_edge}
use Rattle.cam_tiles.proofs.masks.mask.Mask.fill.Goals as goal

pub point-start-requires-clause-offset : goal.point-start-requires-clause-offset
point-start-requires-clause-offset c = offset_short c.args.turn c.args.offset c.args.contour.now.start c.requires.start

pub seg-seg-requires-clause-offset : goal.seg-seg-requires-clause-offset
seg-seg-requires-clause-offset c = offset_short c.args.turn c.args.offset c.args.contour.now.start c.requires.start

pub loop-seg-init : goal.loop-seg-init
loop-seg-init c = grind (arith, none_turned, TurnsSo, turning, placed)

pub loop-seg-preserved : goal.loop-seg-preserved
loop-seg-preserved c = record {
  on_board = c.end-here.ensures.on_board c.seg-seg.ensures.sound;
  turned = segment_turned (TurnsSo origin.offset) (turning origin.offset) c.args.turn c.args.offset
      c.point-start.result c.loop-seg.here c.end-here.result c.seg-seg.result c.as_slice-seg-items.result.now
      c.loop-seg.seg-index _ c.loop-seg-test.true c.seg-seg.ensures.value c.end-here.ensures.value
      c.loop-seg.invariant.turned c.turn_segment.ensures;
}

inside : (c : After-turn_edge) → Turns (λ s. IsInContour (relative origin.offset s)
    (placed_contour c.args.turn c.args.offset c.args.contour.now)) c.blank-inside.result c.turn_edge.new.self
inside c =
    turned_inside origin.offset (placed_contour c.args.turn c.args.offset c.args.contour.now)
    c.blank-inside.result c.turn_edge.new.self
    (contour_turned (TurnsSo origin.offset) (turning origin.offset) c.args.turn c.args.offset
    c.args.contour.now c.point-start.result c.loop-seg.here c.as_slice-seg-items.result.now c.loop-seg.seg-index
    c.loop-seg-test.false c.point-start.ensures c.as_slice-seg-items.ensures c.loop-seg.invariant.turned
    c.turn_edge.ensures)

pub merge-requires : goal.merge-requires
merge-requires c = grind (arith, inside)

pub returns : goal.returns
returns c =
    let P : Spot → Type 0 = λ s. IsInContour s (placed_contour c.args.turn c.args.offset c.args.contour.now) in
    let turned = inside (goal.at.returns c).After-turn_edge in
    merges_shown c.args.how P c.turn_edge.new.self c.args.self.now c.merge.new.self
    (turned.grid ∙ c.blank-inside.ensures.grid ∙ c.grid.ensures.value)
    (shows_like (λ s. P (relative origin.offset s)) P c.turn_edge.new.self (λ s. seen_itself P s)
    (shows_turned (λ s. P (relative origin.offset s)) c.blank-inside.result c.turn_edge.new.self c.blank-inside.ensures.marks
    turned))
    c.merge.ensures

pub seg-seg-requires-clause-seg : goal.seg-seg-requires-clause-seg
seg-seg-requires-clause-seg c = grind (arith)
