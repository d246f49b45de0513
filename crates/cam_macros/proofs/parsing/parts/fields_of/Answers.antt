use Rattle.std.proofs.Common.{arith}
use Rattle.std.proofs.lemmas.Grind.{common_steps}
use Rattle.std.proofs.lemmas.Result.{err_from_is_err_and}
use Rattle.cam_macros.proofs.ReadingLemmas.{AreReadBefore, fields_end, fields_fault}
use Rattle.cam_macros.proofs.parsing.parts.fields_of.Goals as goal

pub returns-in_err-parse-clause-fault : goal.returns-in_err-parse-clause-fault
returns-in_err-parse-clause-fault c = grind (arith, err_from_is_err_and, fields_fault, AreReadBefore)

pub returns-clause-ok : goal.returns-clause-ok
returns-clause-ok c = grind (arith, fields_end, AreReadBefore)

pub loop-rest-init : goal.loop-rest-init
loop-rest-init c = grind (arith)

pub loop-rest-smaller : goal.loop-rest-smaller
loop-rest-smaller c = grind (arith)

pub loop-rest-preserved : goal.loop-rest-preserved
loop-rest-preserved c = grind (arith, common_steps)
