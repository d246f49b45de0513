use Rattle.std.proofs.Common.{arith}
use Rattle.std.proofs.lemmas.Grind.{common_steps}
use Rattle.cam_c.proofs.line.put_numbers.Goals as goal

pub returns : goal.returns
returns c = grind (arith, common_steps)

pub loop-number-preserved : goal.loop-number-preserved
loop-number-preserved c = grind (arith, common_steps)
