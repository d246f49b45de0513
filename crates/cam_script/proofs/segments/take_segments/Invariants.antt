use Rattle.std.proofs.Common.{length}
use Rattle.cam_script.specs.Items.{segs_in}
use Rattle.cam_script.proofs.Parts.{ReadsOn}
use Rattle.cam_script.proofs.segments.take_segments.Given as goal

abbrev pub invariant-loop-seg : goal.invariant-loop-seg
invariant-loop-seg l = ReadsOn (segs_in l.fn.words) l.segs.items (segs_in l.words)

abbrev pub decreases-loop-seg : goal.decreases-loop-seg
decreases-loop-seg l = length l.words
