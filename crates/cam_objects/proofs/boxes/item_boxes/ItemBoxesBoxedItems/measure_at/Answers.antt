use Rattle.std.proofs.Common.{arith}
use Rattle.std.proofs.lemmas.Grind.{common_steps}
use Rattle.cam_objects.proofs.boxes.item_boxes.ItemBoxesBoxedItems.measure_at.Goals as goal

pub returns-clause-leaves : goal.returns-clause-leaves
returns-clause-leaves c = grind (arith, common_steps)

pub item_leaf_count-requires : goal.item_leaf_count-requires
item_leaf_count-requires c = grind (arith, common_steps)

pub index-requires : goal.index-requires
index-requires c = grind (arith, common_steps)

pub read-requires : goal.read-requires
read-requires c = grind (arith, common_steps)
