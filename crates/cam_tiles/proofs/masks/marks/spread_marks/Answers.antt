use Rattle.std.proofs.Common.{arith}
use Rattle.cam_tiles.proofs.MarkedColumns.{next_tile}
use Rattle.cam_tiles.proofs.masks.marks.spread_marks.Goals as goal

pub loop-passed-preserved : goal.loop-passed-preserved
loop-passed-preserved c =
    next_tile _ _ c.args.marks.now c.loop-passed.marks c.spread_to.new.marks (omega arith) (omega arith)
    c.spread_to.auto.marks c.loop-passed.invariant c.spread_to.ensures
