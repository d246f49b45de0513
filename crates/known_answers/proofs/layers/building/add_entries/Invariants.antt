use Rattle.cam_objects.specs.Soundness.{IsSound}
use Rattle.known_answers.proofs.layers.building.add_entries.Given as goal

abbrev pub invariant-loop-number : goal.invariant-loop-number
invariant-loop-number l = IsSound l.layer
