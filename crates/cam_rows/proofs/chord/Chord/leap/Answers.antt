use Rattle.std.proofs.Common.{arith}
use Rattle.cam_rows.proofs.chord.Chord.leap.Goals as goal

pub leap-requires-clause-side : goal.leap-requires-clause-side
leap-requires-clause-side c = assumption arith

pub returns-clause-chord : goal.returns-clause-chord
returns-clause-chord c = grind (arith)

pub leap-requires-2-clause-side : goal.leap-requires-2-clause-side
leap-requires-2-clause-side c = assumption arith
