use Rattle.std.proofs.Common.{slice_index}
use Rattle.cam_rows.specs.Runs.{IsInRun}
use Rattle.cam_tiles.proofs.MarkedRows.{AreRowsTurned}
use Rattle.cam_tiles.proofs.masks.marks.mark_runs.Given as goal

abbrev pub invariant-loop-k : goal.invariant-loop-k
invariant-loop-k l = AreRowsTurned l.first l.k (λ k c. IsInRun (slice_index l.firsts k) (slice_index l.ends k) c) l.fn.marks l.marks
