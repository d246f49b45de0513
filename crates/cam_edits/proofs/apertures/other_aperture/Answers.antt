use Rattle.std.proofs.Common.{arith}
use Rattle.cam_edits.proofs.apertures.other_aperture.Goals as goal

pub returns-in-One-Draw-clause-value : goal.returns-in-One-Draw-clause-value
returns-in-One-Draw-clause-value c = grind (arith)

pub returns-in-One-Region-clause-changed : goal.returns-in-One-Region-clause-changed
returns-in-One-Region-clause-changed c = grind (arith)

pub returns-in-One-Region-clause-value : goal.returns-in-One-Region-clause-value
returns-in-One-Region-clause-value c = grind (arith)

pub returns-in-One-Draw-clause-changed : goal.returns-in-One-Draw-clause-changed
returns-in-One-Draw-clause-changed c = grind (arith)

pub returns-in-One-Arc-clause-value : goal.returns-in-One-Arc-clause-value
returns-in-One-Arc-clause-value c = grind (arith)

pub returns-in-One-Flash-clause-value : goal.returns-in-One-Flash-clause-value
returns-in-One-Flash-clause-value c = grind (arith)

pub returns-in-One-Arc-clause-changed : goal.returns-in-One-Arc-clause-changed
returns-in-One-Arc-clause-changed c = grind (arith)

pub returns-in-One-Flash-clause-changed : goal.returns-in-One-Flash-clause-changed
returns-in-One-Flash-clause-changed c = grind (arith)
