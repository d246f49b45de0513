use Rattle.std.proofs.Common.{arith}
use Rattle.cam_objects.proofs.cells.sides.Sides.end_of_meeting.Goals as goal

pub loop-chunk-preserved : goal.loop-chunk-preserved
loop-chunk-preserved c = grind (arith)

pub returns-then-any_meets-clause-known : goal.returns-then-any_meets-clause-known
returns-then-any_meets-clause-known c = grind (arith)

pub returns-then-any_meets-clause-apart : goal.returns-then-any_meets-clause-apart
returns-then-any_meets-clause-apart c = grind (arith)

pub returns-then-end-eq0-clause-known : goal.returns-then-end-eq0-clause-known
returns-then-end-eq0-clause-known c = grind (arith)

pub returns-then-any_meets-clause-within : goal.returns-then-any_meets-clause-within
returns-then-any_meets-clause-within c = grind (arith)

pub returns-clause-apart : goal.returns-clause-apart
returns-clause-apart c = grind (arith)

pub returns-clause-known : goal.returns-clause-known
returns-clause-known c = grind (arith)

pub returns-clause-within : goal.returns-clause-within
returns-clause-within c = grind (arith)
