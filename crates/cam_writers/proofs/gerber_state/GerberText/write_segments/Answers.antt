use Rattle.std.proofs.Common.{◌∙◌, sym, subst, arith}
use Rattle.std.proofs.lemmas.Grind.{common_steps}
use Rattle.cam_units.specs.Board.{IsOnBoard}
use Rattle.cam_writers.proofs.GerberTracks.{end_more, ends_on_board, segment_tracked}
use Rattle.cam_writers.proofs.gerber_state.GerberText.write_segments.Goals as goal

pub loop-seg-preserved : goal.loop-seg-preserved
loop-seg-preserved c = record {
  here = c.end-here.ensures.value
      ∙ sym (end_more c.args.start c.args.segs.now c.loop-seg.seg-index _ c.loop-seg-test.true);
  on_board = subst IsOnBoard (sym c.end-here.ensures.value)
      (ends_on_board _ (c.requires.segs c.loop-seg.seg-index _ c.loop-seg-test.true));
  tracks =
      λ phrases h.
      segment_tracked c.args.start c.loop-seg.here c.args.segs.now c.loop-seg.seg-index _ phrases
      c.write_segment.new.self c.loop-seg-test.true
      c.loop-seg.invariant.here (c.in_ok-write_segment.ensures _ (c.loop-seg.invariant.tracks phrases h));
}

pub returns : goal.returns
returns c = grind (arith, common_steps)
