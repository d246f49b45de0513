use Rattle.std.proofs.Common.{arith, sym, ◌∙◌}
use Rattle.std.proofs.lemmas.Result.{err_from_is_err_and}
use Rattle.cam_macros.proofs.PartLemmas.{no_equals, no_variable, no_value, is_assignment}
use Rattle.cam_macros.proofs.part.Part.assignment.Goals as goal

pub returns-in_default-clause-fault : goal.returns-in_default-clause-fault
returns-in_default-clause-fault c =
    no_equals c.args.piece.now c.cut.result.0.now (rw c.in_default.is at c.cut.ensures.pieces)

pub returns-in_default-variable-clause-fault : goal.returns-in_default-variable-clause-fault
returns-in_default-variable-clause-fault c =
    no_variable c.args.piece.now c.cut.result.0.now c.in-Some.text.now (rw c.in-Some.is at c.cut.ensures.pieces)
    (sym c.variable.ensures ∙ c.in_default-variable.is)

pub returns-in_err-read-clause-fault : goal.returns-in_err-read-clause-fault
returns-in_err-read-clause-fault c = grind (arith, err_from_is_err_and, no_value)

pub returns-clause-ok : goal.returns-clause-ok
returns-clause-ok c = grind (arith, is_assignment)
