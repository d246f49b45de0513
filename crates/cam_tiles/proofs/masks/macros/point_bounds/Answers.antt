use Rattle.std.proofs.Common.{arith, rules}
use Rattle.cam_tiles.proofs.masks.macros.point_bounds.Goals as goal

pub overflow_mul-place : goal.overflow_mul-place
overflow_mul-place c = grind (arith)

pub overflow_mul-place-2 : goal.overflow_mul-place-2
overflow_mul-place-2 c = grind (arith)

pub returns : goal.returns
returns c = search rules
