use Rattle.std.proofs.Common.{arith}
use Rattle.std.proofs.lemmas.List.{get_or-set_same, length-set}
use Rattle.cam_objects.proofs.KeptBoxes.{beside_set}
use Rattle.cam_objects.proofs.cells.kept.ItemCells.renew.Goals as goal

pub returns-clause-one : goal.returns-clause-one
returns-clause-one g c = λ before kept within. grind (arith, beside_set)

pub returns-clause-cells : goal.returns-clause-cells
returns-clause-cells g c = λ before b kept is. grind (arith, length-set, get_or-set_same, returns-clause-one)
