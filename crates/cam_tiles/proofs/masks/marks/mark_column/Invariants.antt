use Rattle.std.proofs.Common.{◌<◌}
use Rattle.cam_tiles.proofs.MarkedRows.{AreRowsTurned}
use Rattle.cam_tiles.proofs.masks.marks.mark_column.Given as goal

abbrev pub invariant-loop-k : goal.invariant-loop-k
invariant-loop-k l = AreRowsTurned l.first l.k (λ _ c. c < l.end) l.fn.marks l.marks
