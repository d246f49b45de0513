use Rattle.std.proofs.Common.{arith, rules}
use Rattle.cam_tiles.proofs.Lattices.{back_fits, back_kept, way_back_fits}
use Rattle.cam_tiles.proofs.LevelRows.{top_short}
use Rattle.cam_tiles.proofs.levels.Levels.height.Goals as goal

pub overflow_mul-result : goal.overflow_mul-result
overflow_mul-result c = grind (arith, way_back_fits, top_short)

pub overflow_sub-result : goal.overflow_sub-result
overflow_sub-result c = grind (arith, back_fits, top_short)

pub returns : goal.returns
returns c = search (rules, back_kept, top_short)
