use Rattle.std.proofs.Common.{arith}
use Rattle.cam_tiles.proofs.SeenParts.{from_way_fits, from_x_fits, part_kept, part_x_fits}
use Rattle.cam_tiles.proofs.SeenRows.{top_fits, twice_fits}
use Rattle.cam_tiles.proofs.grid.Grid.part_seen.Goals as goal

pub overflow_sub-result : goal.overflow_sub-result
overflow_sub-result c = grind (arith, part_x_fits)

pub returns : goal.returns
returns c = grind (arith, part_kept)

pub overflow_mul-result : goal.overflow_mul-result
overflow_mul-result c = grind (arith, from_way_fits)

pub overflow_add-result : goal.overflow_add-result
overflow_add-result c = grind (arith, from_x_fits)

pub overflow_mul-result-2 : goal.overflow_mul-result-2
overflow_mul-result-2 c = grind (arith, twice_fits)

pub overflow_mul-result-3 : goal.overflow_mul-result-3
overflow_mul-result-3 c = grind (arith, twice_fits)

pub overflow_sub-result-2 : goal.overflow_sub-result-2
overflow_sub-result-2 c = grind (arith, top_fits)
