use Rattle.std.proofs.Common.{arith}
use Rattle.std.proofs.lemmas.List.Edits.{get_or-insert_at, length-remove}
use Rattle.cam_objects.proofs.KeptBoxes.{beside_carried}
use Rattle.cam_objects.proofs.cells.kept.ItemCells.carry.Goals as goal

pub returns-clause-cells : goal.returns-clause-cells
returns-clause-cells g c = λ before b kept left within is. grind (arith, length-remove, get_or-insert_at, beside_carried)
