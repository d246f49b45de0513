use Rattle.std.proofs.Common.{arith}
use Rattle.cam_rows.proofs.ChordWalks.{in_walk}
use Rattle.cam_rows.proofs.chord.Chord.walk.Goals as goal

pub returns-clause-each : goal.returns-clause-each
returns-clause-each g c = λ i within.
    let left = c.walk.ensures in
    let right = c.walk-2.ensures in
    rw (left.inside, right.inside)
    (in_walk _ c.args.self.now c.walk.new.self c.walk-2.new.self c.args.to_left c.args.to_right i c.requires.chord
    left.same right.same left.there right.there left.side right.side within)

pub walk-requires-2-clause-columns : goal.walk-requires-2-clause-columns
walk-requires-2-clause-columns c = grind (arith)

pub walk-requires-2-clause-reached : goal.walk-requires-2-clause-reached
walk-requires-2-clause-reached c = assumption arith

pub returns-clause-chord : goal.returns-clause-chord
returns-clause-chord c = grind (arith)

pub walk-requires-clause-reached : goal.walk-requires-clause-reached
walk-requires-clause-reached c = grind (arith)

pub walk-requires-clause-columns : goal.walk-requires-clause-columns
walk-requires-clause-columns c = assumption arith

pub walk-requires-clause-side : goal.walk-requires-clause-side
walk-requires-clause-side c = grind (arith)

pub walk-requires-2-clause-side : goal.walk-requires-2-clause-side
walk-requires-2-clause-side c = assumption arith
