use Rattle.std.proofs.Common.{arith}
use Rattle.cam_tiles.proofs.masks.runs.are_empty.Goals as goal

pub returns : goal.returns
returns c = grind (arith)
