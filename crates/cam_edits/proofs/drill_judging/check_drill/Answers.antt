use Rattle.std.proofs.Common.{arith}
use Rattle.cam_edits.proofs.DrillEdits.{deleted, inserted, reordered}
use Rattle.cam_edits.proofs.drill_judging.check_drill.Goals as goal

pub returns-in-Insert : goal.returns-in-Insert
returns-in-Insert c = grind (arith, inserted)

pub returns-in-Delete : goal.returns-in-Delete
returns-in-Delete c = grind (arith, deleted)

pub returns-in-Reorder : goal.returns-in-Reorder
returns-in-Reorder c = grind (arith, reordered)
