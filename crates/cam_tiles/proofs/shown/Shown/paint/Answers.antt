use Rattle.std.proofs.Common.{arith}
use Rattle.cam_tiles.proofs.shown.Shown.paint.Goals as goal

pub paint-requires-in-Drill : goal.paint-requires-in-Drill
paint-requires-in-Drill c = grind (arith)

pub paint-requires : goal.paint-requires
paint-requires c = grind (arith)
