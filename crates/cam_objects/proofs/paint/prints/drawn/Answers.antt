use Rattle.std.proofs.Common.{arith}
use Rattle.cam_objects.proofs.paint.prints.drawn.Goals as goal

pub returns-in-Rectangular-clause-shape : goal.returns-in-Rectangular-clause-shape
returns-in-Rectangular-clause-shape c = grind (arith)

pub returns-in-Round-clause-sound : goal.returns-in-Round-clause-sound
returns-in-Round-clause-sound c = grind (arith)

pub returns-in-Round-clause-shape : goal.returns-in-Round-clause-shape
returns-in-Round-clause-shape c = grind (arith)

pub returns-in-Rectangular-clause-sound : goal.returns-in-Rectangular-clause-sound
returns-in-Rectangular-clause-sound c = grind (arith)
