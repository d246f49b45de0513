use Rattle.std.proofs.Common.{arith}
use Rattle.cam_edits.proofs.step.set_aperture.Goals as goal

pub returns-in-One-Region-clause-item : goal.returns-in-One-Region-clause-item
returns-in-One-Region-clause-item c = grind (arith)

pub returns-in-One-Flash-clause-item : goal.returns-in-One-Flash-clause-item
returns-in-One-Flash-clause-item c = grind (arith)

pub returns-in-One-Draw-clause-item : goal.returns-in-One-Draw-clause-item
returns-in-One-Draw-clause-item c = grind (arith)

pub returns-in-Repeat-clause-item : goal.returns-in-Repeat-clause-item
returns-in-Repeat-clause-item c = grind (arith)

pub returns-in-One-Arc-clause-item : goal.returns-in-One-Arc-clause-item
returns-in-One-Arc-clause-item c = grind (arith)
