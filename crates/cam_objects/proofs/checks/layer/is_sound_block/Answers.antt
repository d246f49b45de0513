use Rattle.std.proofs.Common.{arith}
use Rattle.cam_objects.proofs.checks.layer.is_sound_block.Goals as goal

pub returns-then-leaf_count-le-LEAF_LIMIT : goal.returns-then-leaf_count-le-LEAF_LIMIT
returns-then-leaf_count-le-LEAF_LIMIT c = grind (arith)

pub returns-else-leaf_count-le-LEAF_LIMIT : goal.returns-else-leaf_count-le-LEAF_LIMIT
returns-else-leaf_count-le-LEAF_LIMIT c = grind (arith)
