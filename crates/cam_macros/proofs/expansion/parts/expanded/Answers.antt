use Rattle.std.proofs.Common.{arith}
use Rattle.std.proofs.lemmas.Grind.{common_steps}
use Rattle.std.proofs.lemmas.Result.{err_from_is_err_and}
use Rattle.cam_macros.proofs.ExpansionLemmas.{part_next, part_fault}
use Rattle.cam_macros.proofs.expansion.parts.expanded.Goals as goal

pub loop-part-preserved : goal.loop-part-preserved
loop-part-preserved c = grind (arith, part_next)

pub returns-in_err-expand-clause-fault : goal.returns-in_err-expand-clause-fault
returns-in_err-expand-clause-fault c = grind (arith, err_from_is_err_and, part_fault)

pub returns-clause-ok : goal.returns-clause-ok
returns-clause-ok c = grind (arith, common_steps)
