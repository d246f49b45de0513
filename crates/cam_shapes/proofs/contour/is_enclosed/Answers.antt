use Rattle.std.proofs.Common.{arith}
use Rattle.std.proofs.lemmas.Grind.{common_steps}
use Rattle.cam_shapes.proofs.contour.is_enclosed.Goals as goal

pub returns : goal.returns
returns c = grind (arith, common_steps)

pub loop-seg-preserved : goal.loop-seg-preserved
loop-seg-preserved c = grind (arith, common_steps)
