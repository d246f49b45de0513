use Rattle.std.proofs.Common.{arith}
use Rattle.cam_edits.proofs.judging.judged.Goals as goal

pub returns-clause-value : goal.returns-clause-value
returns-clause-value c = grind (arith)

pub returns-in-SetAttribute-clause-value : goal.returns-in-SetAttribute-clause-value
returns-in-SetAttribute-clause-value c = grind (arith)

pub returns-in-Diameter-clause-value : goal.returns-in-Diameter-clause-value
returns-in-Diameter-clause-value c = grind (arith)

pub returns-in-Gerber-clause-value : goal.returns-in-Gerber-clause-value
returns-in-Gerber-clause-value c = grind (arith)

pub returns-in-Delete-clause-value : goal.returns-in-Delete-clause-value
returns-in-Delete-clause-value c = grind (arith)

pub returns-in-Tool-clause-value : goal.returns-in-Tool-clause-value
returns-in-Tool-clause-value c = grind (arith)

pub returns-in-Insert-clause-value : goal.returns-in-Insert-clause-value
returns-in-Insert-clause-value c = grind (arith)

pub returns-in-Reorder-clause-value : goal.returns-in-Reorder-clause-value
returns-in-Reorder-clause-value c = grind (arith)

pub returns-in-Polarity-clause-value : goal.returns-in-Polarity-clause-value
returns-in-Polarity-clause-value c = grind (arith)

pub returns-in-Aperture-clause-value : goal.returns-in-Aperture-clause-value
returns-in-Aperture-clause-value c = grind (arith)
