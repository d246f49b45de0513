use Rattle.std.proofs.Common.{arith}
use Rattle.std.proofs.lemmas.List.Edits.{get_or-insert_at}
use Rattle.cam_objects.proofs.KeptBoxes.{beside_inserted}
use Rattle.cam_objects.proofs.cells.kept.ItemCells.insert.Goals as goal

pub returns-clause-cells : goal.returns-clause-cells
returns-clause-cells g c = λ before b kept within is. grind (arith, get_or-insert_at, beside_inserted)
