use Rattle.std.proofs.Common.{◌<◌, slice_index}
use Rattle.cam_tiles.proofs.MarkedRows.{AreRowsTurned}
use Rattle.cam_tiles.proofs.masks.marks.mark_ends.Given as goal

abbrev pub invariant-loop-k : goal.invariant-loop-k
invariant-loop-k l = AreRowsTurned l.first l.k (λ k c. c < slice_index l.ends k) l.fn.marks l.marks
