use Rattle.std.proofs.Common.{arith}
use Rattle.std.proofs.lemmas.Grind.{common_steps}
use Rattle.cam_objects.proofs.drill.checks.leaf_count.Goals as goal

pub overflow_add-leaves : goal.overflow_add-leaves
overflow_add-leaves c = grind (arith, common_steps)

pub loop-item-preserved : goal.loop-item-preserved
loop-item-preserved c = grind (arith, common_steps)
