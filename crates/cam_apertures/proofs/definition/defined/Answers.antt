use Rattle.std.proofs.Common.{arith}
use Rattle.cam_apertures.specs.Machinery.Outcomes.{outcome}
use Rattle.cam_apertures.proofs.definition.defined.Goals as goal

pub returns-clause-ok : goal.returns-clause-ok
unfolding outcome
returns-clause-ok c = grind (arith)

pub returns-in_err-aperture-clause-fault : goal.returns-in_err-aperture-clause-fault
unfolding outcome
returns-in_err-aperture-clause-fault c = grind (arith)

pub returns-in_default-clause-fault : goal.returns-in_default-clause-fault
unfolding outcome
returns-in_default-clause-fault c = grind (arith)

pub returns-in_default-defined_number-clause-fault : goal.returns-in_default-defined_number-clause-fault
unfolding outcome
returns-in_default-defined_number-clause-fault c = grind (arith)

pub returns-clause-macros : goal.returns-clause-macros
unfolding outcome
returns-clause-macros c = assumption arith
