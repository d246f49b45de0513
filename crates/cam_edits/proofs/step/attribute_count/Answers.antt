use Rattle.std.proofs.Common.{arith}
use Rattle.std.proofs.lemmas.Grind.{common_steps}
use Rattle.cam_edits.proofs.step.attribute_count.Goals as goal

pub overflow_add-count : goal.overflow_add-count
overflow_add-count c = grind (arith, common_steps)

pub loop-step-preserved : goal.loop-step-preserved
loop-step-preserved c = grind (arith, common_steps)
