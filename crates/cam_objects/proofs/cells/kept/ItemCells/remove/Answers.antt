use Rattle.std.proofs.Common.{arith}
use Rattle.cam_objects.proofs.KeptBoxes.{beside_removed}
use Rattle.cam_objects.proofs.cells.kept.ItemCells.remove.Goals as goal

pub returns : goal.returns
returns c = λ boxes kept within. grind (arith, beside_removed)
