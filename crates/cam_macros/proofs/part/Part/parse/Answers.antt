use Rattle.std.proofs.Common.{arith}
use Rattle.std.proofs.lemmas.Grind.{common_steps}
use Rattle.cam_macros.proofs.part.Part.parse.Goals as goal

pub returns-in-36-clause-fault : goal.returns-in-36-clause-fault
returns-in-36-clause-fault c = grind (arith, common_steps)

pub returns-in-36-clause-ok : goal.returns-in-36-clause-ok
returns-in-36-clause-ok c = grind (arith, common_steps)
