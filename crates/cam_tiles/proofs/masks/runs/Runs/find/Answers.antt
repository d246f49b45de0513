use Rattle.std.proofs.Common.{arith}
use Rattle.cam_tiles.proofs.RunColumns.{tells_whole}
use Rattle.cam_tiles.proofs.masks.runs.Runs.find.Goals as goal

pub returns : goal.returns
returns g c = grind (arith, tells_whole)
