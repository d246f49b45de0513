use Rattle.std.proofs.Common.{arith}
use Rattle.std.proofs.lemmas.Result.{err_from_is_err_and}
use Rattle.cam_macros.proofs.FlatFields.{fault_left, values_left}
use Rattle.cam_macros.proofs.fields.Fields.values.Goals as goal

pub returns-in_err-stack-clause-fault : goal.returns-in_err-stack-clause-fault
returns-in_err-stack-clause-fault c = grind (arith, err_from_is_err_and, fault_left)

pub returns-clause-ok : goal.returns-clause-ok
returns-clause-ok c = grind (arith, values_left)
