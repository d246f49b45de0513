use Rattle.std.proofs.Common.{arith, refl}
use Rattle.cam_apertures.specs.Machinery.Outcomes.{template_outcome}
use Rattle.cam_apertures.proofs.definition.template.Goals as goal

pub returns-then-eq-4-clause-fault : goal.returns-then-eq-4-clause-fault
unfolding template_outcome
returns-then-eq-4-clause-fault c = grind (arith)

pub returns-then-eq-3-clause-macros : goal.returns-then-eq-3-clause-macros
unfolding template_outcome
returns-then-eq-3-clause-macros c = refl

pub returns-then-eq-clause-fault : goal.returns-then-eq-clause-fault
unfolding template_outcome
returns-then-eq-clause-fault c = grind (arith)

pub returns-then-eq-2-clause-fault : goal.returns-then-eq-2-clause-fault
unfolding template_outcome
returns-then-eq-2-clause-fault c = grind (arith)

pub returns-then-eq-4-clause-macros : goal.returns-then-eq-4-clause-macros
unfolding template_outcome
returns-then-eq-4-clause-macros c = refl

pub returns-then-eq-clause-macros : goal.returns-then-eq-clause-macros
unfolding template_outcome
returns-then-eq-clause-macros c = refl

pub returns-clause-fault : goal.returns-clause-fault
unfolding template_outcome
returns-clause-fault c = grind (arith)

pub returns-then-eq-clause-ok : goal.returns-then-eq-clause-ok
unfolding template_outcome
returns-then-eq-clause-ok c = grind (arith)

pub returns-then-eq-3-clause-fault : goal.returns-then-eq-3-clause-fault
unfolding template_outcome
returns-then-eq-3-clause-fault c = grind (arith)

pub returns-then-eq-2-clause-macros : goal.returns-then-eq-2-clause-macros
unfolding template_outcome
returns-then-eq-2-clause-macros c = refl

pub returns-then-eq-2-clause-ok : goal.returns-then-eq-2-clause-ok
unfolding template_outcome
returns-then-eq-2-clause-ok c = grind (arith)

pub returns-then-eq-3-clause-ok : goal.returns-then-eq-3-clause-ok
unfolding template_outcome
returns-then-eq-3-clause-ok c = grind (arith)

pub returns-clause-ok : goal.returns-clause-ok
unfolding template_outcome
returns-clause-ok c = grind (arith)
