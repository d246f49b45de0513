use Rattle.std.proofs.Common.{arith}
use Rattle.cam_tiles.proofs.source.SourcePainter.tile.Goals as goal

pub returns-clause-rows : goal.returns-clause-rows
returns-clause-rows c = grind arith
