use Rattle.std.proofs.Common.{length}
use Rattle.cam_script.specs.Items.{points_in}
use Rattle.cam_script.proofs.Parts.{ReadsOn}
use Rattle.cam_script.proofs.segments.take_points.Given as goal

abbrev pub invariant-loop-point : goal.invariant-loop-point
invariant-loop-point l = ReadsOn (points_in l.fn.words) l.points.items (points_in l.words)

abbrev pub decreases-loop-point : goal.decreases-loop-point
decreases-loop-point l = length l.words
