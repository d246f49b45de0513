use Rattle.cam_objects.specs.Soundness.{IsSound}
use Rattle.known_answers.proofs.layers.building.add_items.Given as goal

abbrev pub invariant-loop-listed : goal.invariant-loop-listed
invariant-loop-listed l = IsSound l.layer
