use Rattle.std.proofs.Common.{arith}
use Rattle.std.proofs.lemmas.Grind.{common_steps}
use Rattle.cam_tiles.proofs.ContourParts.{next_within}
use Rattle.cam_tiles.proofs.index.contour_parts.part_heights.Goals as goal

pub loop-seg-preserved : goal.loop-seg-preserved
loop-seg-preserved c =
    let here = c.loop-seg in
    record {
      on_board = c.end-here.ensures.on_board (c.requires.part here.seg-index _ c.loop-seg-test.true);
      within = next_within here.heights c.segment_heights.result c.joined-heights.result c.args.from here.here
          c.end-here.result c.args.part.now here.seg-index _ c.loop-seg-test.true c.end-here.ensures.value
          c.segment_heights.ensures c.joined-heights.ensures here.invariant.within;
    }

pub loop-seg-init : goal.loop-seg-init
loop-seg-init c = grind (arith)

pub returns : goal.returns
returns c = grind (arith, common_steps)
