use Rattle.std.proofs.Common.{arith}
use Rattle.std.proofs.lemmas.Grind.{common_steps}
use Rattle.cam_objects.proofs.drill.item_boxes.DrillItemBoxesBoxedItems.count.Goals as goal

pub returns-clause-boxes : goal.returns-clause-boxes
returns-clause-boxes c = grind (arith, common_steps)

pub returns-clause-few : goal.returns-clause-few
returns-clause-few c = grind (arith, common_steps)

pub returns-clause-leaf_counts : goal.returns-clause-leaf_counts
returns-clause-leaf_counts c = grind (arith, common_steps)
