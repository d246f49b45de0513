use Rattle.std.proofs.Common.{refl, sym, ◌∙◌}
use Rattle.cam_tiles.proofs.ContourParts.{all_of_part, end_all, end_more, next_of_part, none_of_part}
use Rattle.cam_tiles.proofs.TurnedMarks.{TurnsSo, still_wide, turning}
use Rattle.cam_tiles.proofs.masks.parts.turn_part.Goals as goal

pub loop-seg-init : goal.loop-seg-init
loop-seg-init c = record {
  on_board = c.requires.from;
  wide = c.requires.wide;
  end = refl;
  turned = none_of_part (TurnsSo c.args.field.now) (turning c.args.field.now) c.args.from
      c.args.part.now c.args.marks.now;
}

pub loop-seg-preserved : goal.loop-seg-preserved
loop-seg-preserved c =
    let part = c.args.part.now in
    let k = c.loop-seg.seg-index in
    let there = c.end-here.result in
    record {
      on_board = c.end-here.ensures.on_board (c.requires.part k _ c.loop-seg-test.true);
      wide = still_wide c.args.field.now.columns c.loop-seg.marks c.turn_segment.new.marks c.turn_segment.auto.marks
          c.loop-seg.invariant.wide;
      end = end_more c.loop-seg.here there part k _ c.loop-seg-test.true c.end-here.ensures.value ∙ c.loop-seg.invariant.end;
      turned = next_of_part (TurnsSo c.args.field.now) (turning c.args.field.now) c.args.from
          c.loop-seg.here there part k _ c.loop-seg-test.true c.end-here.ensures.value c.loop-seg.invariant.turned
          c.turn_segment.ensures;
    }

pub returns : goal.returns
returns c = record {
  end = sym (end_all c.loop-seg.here c.args.part.now c.loop-seg.seg-index c.loop-seg-test.false) ∙ c.loop-seg.invariant.end;
  turned = all_of_part (TurnsSo c.args.field.now) (turning c.args.field.now) c.args.from
      c.loop-seg.here c.args.part.now c.loop-seg.seg-index c.loop-seg-test.false c.loop-seg.invariant.turned;
}
