use Rattle.std.proofs.Common.{arith}
use Rattle.cam_tiles.proofs.TileCounts.{few_tiles}
use Rattle.cam_tiles.proofs.TilesInOrder.{drawn_between, dirty_between}
use Rattle.cam_tiles.proofs.raster.draw_between.Goals as goal

pub returns-clause-tiles : goal.returns-clause-tiles
returns-clause-tiles g c = grind (arith, drawn_between)

pub returns-clause-asked : goal.returns-clause-asked
returns-clause-asked c = grind (arith, dirty_between, few_tiles)

pub draw-requires-clause-room : goal.draw-requires-clause-room
draw-requires-clause-room c = grind (arith, dirty_between, few_tiles)

pub overflow_cast-start : goal.overflow_cast-start
overflow_cast-start c = grind (arith, dirty_between, few_tiles)
