use Rattle.std.proofs.Common.{arith}
use Rattle.cam_tiles.proofs.MarkedColumns.{lowest_carried, next_row, no_row, nothing_carried}
use Rattle.cam_tiles.proofs.masks.marks.spread_to.Goals as goal

pub loop-row-preserved : goal.loop-row-preserved
loop-row-preserved c = grind (arith, lowest_carried, next_row, no_row, nothing_carried)
