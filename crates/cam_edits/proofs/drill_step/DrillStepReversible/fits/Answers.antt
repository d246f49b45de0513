use Rattle.std.proofs.Common.{arith}
use Rattle.cam_edits.proofs.drill_step.DrillStepReversible.fits.Goals as goal

pub returns-in-Tool : goal.returns-in-Tool
returns-in-Tool c = grind (arith)

pub returns-else-k-len : goal.returns-else-k-len
returns-else-k-len c = grind (arith)

pub returns-in-Insert : goal.returns-in-Insert
returns-in-Insert c = grind (arith)

pub returns-in-Delete : goal.returns-in-Delete
returns-in-Delete c = grind (arith)

pub returns-then-k-len : goal.returns-then-k-len
returns-then-k-len c = grind (arith)

pub returns-in-Diameter : goal.returns-in-Diameter
returns-in-Diameter c = grind (arith)
