use Rattle.cam_objects.specs.DrillSoundness.{IsSoundDrillLayer}
use Rattle.known_answers.proofs.drills.add_items.Given as goal

abbrev pub invariant-loop-drilled : goal.invariant-loop-drilled
invariant-loop-drilled l = IsSoundDrillLayer l.layer
