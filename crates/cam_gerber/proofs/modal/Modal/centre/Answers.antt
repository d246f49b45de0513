use Rattle.std.proofs.Common.{arith}
use Rattle.std.proofs.lemmas.Grind.{common_steps}
use Rattle.cam_gerber.proofs.modal.Modal.centre.Goals as goal

pub plus-requires-2-clause-from : goal.plus-requires-2-clause-from
plus-requires-2-clause-from c = grind (arith, common_steps)

pub returns-in_err-j : goal.returns-in_err-j
returns-in_err-j c = grind (arith, common_steps)

pub plus-requires-clause-from : goal.plus-requires-clause-from
plus-requires-clause-from c = grind (arith)
