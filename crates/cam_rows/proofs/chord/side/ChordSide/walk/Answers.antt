use Rattle.std.proofs.Common.{arith}
use Rattle.cam_rows.proofs.chord.side.ChordSide.walk.Goals as goal

pub narrow-requires-clause-side : goal.narrow-requires-clause-side
narrow-requires-clause-side c = assumption arith

pub narrow-requires-clause-beyond : goal.narrow-requires-clause-beyond
narrow-requires-clause-beyond c = grind (arith)

pub returns-clause-side : goal.returns-clause-side
returns-clause-side c = grind (arith)

pub returns-clause-there : goal.returns-clause-there
returns-clause-there c = grind (arith)

pub returns-then-not-this-clause-reached : goal.returns-then-not-this-clause-reached
returns-then-not-this-clause-reached c = grind (arith)

pub returns-clause-same : goal.returns-clause-same
returns-clause-same c = grind (arith)

pub returns-then-not-this-clause-side : goal.returns-then-not-this-clause-side
returns-then-not-this-clause-side c = grind (arith)

pub widen-requires-clause-side : goal.widen-requires-clause-side
widen-requires-clause-side c = assumption arith

pub widen-requires-clause-near : goal.widen-requires-clause-near
widen-requires-clause-near c = grind (arith)

pub returns-clause-reached : goal.returns-clause-reached
returns-clause-reached c = grind (arith)

pub returns-then-not-this-clause-there : goal.returns-then-not-this-clause-there
returns-then-not-this-clause-there c = grind (arith)
