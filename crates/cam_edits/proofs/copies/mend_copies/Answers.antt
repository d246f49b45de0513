use Rattle.std.proofs.Common.{arith}
use Rattle.std.proofs.lemmas.Grind.{common_steps}
use Rattle.std.proofs.lemmas.List.Edits.{length-insert, length-remove}
use Rattle.cam_edits.proofs.ShiftedItems.{edited}
use Rattle.cam_edits.proofs.copies.mend_copies.Goals as goal

pub returns-in-Some-Some-2 : goal.returns-in-Some-Some-2
returns-in-Some-Some-2 c = grind (arith, edited, length-remove, length-insert)

pub returns-in-None-Some : goal.returns-in-None-Some
returns-in-None-Some c = grind (arith, common_steps)

pub renew-requires-clause-within : goal.renew-requires-clause-within
renew-requires-clause-within c = grind (arith, common_steps)
