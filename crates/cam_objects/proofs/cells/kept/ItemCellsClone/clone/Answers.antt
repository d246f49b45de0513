use Rattle.std.proofs.Common.{arith, refl}
use Rattle.cam_objects.proofs.cells.kept.ItemCellsClone.clone.Goals as goal

pub same-result-2 : goal.same-result-2
same-result-2 c = grind (arith)

pub same-result : goal.same-result
same-result c = refl
