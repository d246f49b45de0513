use Rattle.std.proofs.Common.{arith}
use Rattle.std.proofs.lemmas.Grind.{common_steps}
use Rattle.cam_c.proofs.line.put.Goals as goal

pub returns-clause-items : goal.returns-clause-items
returns-clause-items c = grind (arith, common_steps)

pub loop-byte-preserved : goal.loop-byte-preserved
loop-byte-preserved c = grind (arith, common_steps)
