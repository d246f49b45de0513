use Rattle.std.proofs.Common.{arith}
use Rattle.std.proofs.lemmas.Grind.{common_steps}
use Rattle.cam_apertures.proofs.definition.values.Goals as goal

pub loop-rest-smaller : goal.loop-rest-smaller
loop-rest-smaller c = grind (arith)

pub loop-rest-preserved : goal.loop-rest-preserved
loop-rest-preserved c = grind (arith, common_steps)
