use Rattle.cam_objects.specs.DrillSoundness.{IsSoundDrillLayer}
use Rattle.known_answers.proofs.drills.add_tools.Given as goal

abbrev pub invariant-loop-tool : goal.invariant-loop-tool
invariant-loop-tool l = IsSoundDrillLayer l.layer
