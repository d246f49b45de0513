use Rattle.std.proofs.Common.{arith}
use Rattle.cam_objects.proofs.cells.kept.ItemCells.none.Goals as goal

pub returns : goal.returns
returns c = grind (arith)
