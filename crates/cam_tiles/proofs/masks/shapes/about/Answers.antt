use Rattle.std.proofs.Common.{arith, rules}
use Rattle.cam_tiles.proofs.masks.shapes.about.Goals as goal

pub overflow_mul-result-2 : goal.overflow_mul-result-2
overflow_mul-result-2 c = grind (arith)

pub overflow_mul-result : goal.overflow_mul-result
overflow_mul-result c = grind (arith)

pub overflow_add-result : goal.overflow_add-result
overflow_add-result c = search rules

pub overflow_sub-result : goal.overflow_sub-result
overflow_sub-result c = search rules
