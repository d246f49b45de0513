use Rattle.std.proofs.Common.{arith}
use Rattle.cam_edits.proofs.board.SheetContent.entry.Goals as goal

pub returns-in-None-at : goal.returns-in-None-at
returns-in-None-at c = grind (arith)

pub returns-in-Some-at : goal.returns-in-Some-at
returns-in-Some-at c = grind (arith)

pub returns-in-Some : goal.returns-in-Some
returns-in-Some c = grind (arith)

pub returns-in-None : goal.returns-in-None
returns-in-None c = grind (arith)
