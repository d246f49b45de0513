use Rattle.std.proofs.Common.{length, ◌+◌, ◌<◌, ◌^◌}
use Rattle.cam_script.specs.Items.{points_in}
use Rattle.cam_script.proofs.Parts.{CountsOn}
use Rattle.cam_script.proofs.segments.count_points.Given as goal

abbrev pub invariant-loop-x : goal.invariant-loop-x
invariant-loop-x l = record {
  counted : CountsOn (points_in l.words) l.count (points_in l.rest);
  few : l.count + length l.rest < 2 ^ 64;
}

abbrev pub decreases-loop-x : goal.decreases-loop-x
decreases-loop-x l = length l.rest
