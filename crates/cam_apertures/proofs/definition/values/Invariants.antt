use Rattle.std.specs.Option.{option_copied}
use Rattle.cam_apertures.specs.Definition.{parameters_of}
use Rattle.cam_apertures.proofs.Values.{text_left, AreReadBefore}
use Rattle.cam_apertures.proofs.definition.values.Given as goal

abbrev pub decreases-loop-rest : goal.decreases-loop-rest
decreases-loop-rest l = text_left l.rest

abbrev pub invariant-loop-rest : goal.invariant-loop-rest
invariant-loop-rest l = AreReadBefore (parameters_of (option_copied l.rest)) (parameters_of (option_copied l.fn.parameters)) l.values.items
