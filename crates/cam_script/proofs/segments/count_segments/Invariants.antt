use Rattle.std.proofs.Common.{length, ◌+◌, ◌<◌, ◌^◌}
use Rattle.cam_script.specs.Items.{segs_in}
use Rattle.cam_script.proofs.Parts.{CountsOn}
use Rattle.cam_script.proofs.segments.count_segments.Given as goal

abbrev pub invariant-loop-form : goal.invariant-loop-form
invariant-loop-form l = record {
  counted : CountsOn (segs_in l.words) l.count (segs_in l.rest);
  few : l.count + length l.rest < 2 ^ 64;
}

abbrev pub decreases-loop-form : goal.decreases-loop-form
decreases-loop-form l = length l.rest
