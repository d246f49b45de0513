use Rattle.std.proofs.Common.{◌-◌, arith}
use Rattle.std.proofs.lemmas.Bool.{false≢true}
use Rattle.cam_rows.proofs.Sides.{beyond_on}
use Rattle.cam_rows.proofs.chord.side.ChordSide.leap.Goals as goal
use Rattle.cam_rows.proofs.chord.side.ChordSide.leap.Goals.{else-inside-gt0-via-then-inside-gt0+else-is_last_beyond}
use Rattle.cam_rows.proofs.chord.side.ChordSide.leap.Goals.{else-inside-gt0-via-else-inside-gt0}

pub narrow-requires-clause-beyond : goal.narrow-requires-clause-beyond
narrow-requires-clause-beyond g c = λ j from _.
    beyond_on c.args.self.now.start c.args.self.now.step c.args.room (c.min-inside.result - 1) j (omega arith) (c.is_last_beyond.ensures.0 c.if-is_last_beyond.true)

pub widen-requires-clause-near : goal.widen-requires-clause-near
widen-requires-clause-near g c = λ j before beyond. elim c.else-inside-gt0.branch [
  | else-inside-gt0-via-then-inside-gt0+else-is_last_beyond w ↦
      absurd (false≢true (w.if-is_last_beyond.ensures.1 (beyond_on c.args.self.now.start c.args.self.now.step c.args.room
      j (c.min-inside.result - 1) (omega (arith, before)) beyond)))
  | else-inside-gt0-via-else-inside-gt0 w ↦ absurd (omega (arith, before, w.if-inside-gt0.false))
]

pub overflow_mul-self : goal.overflow_mul-self
overflow_mul-self c = grind (arith)

pub returns-then-is_last_beyond-clause-reached : goal.returns-then-is_last_beyond-clause-reached
returns-then-is_last_beyond-clause-reached c = assumption arith

pub overflow_add-self : goal.overflow_add-self
overflow_add-self c = grind (arith)

pub widen-requires-clause-side : goal.widen-requires-clause-side
widen-requires-clause-side c = grind (arith)

pub returns-then-is_last_beyond-clause-side : goal.returns-then-is_last_beyond-clause-side
returns-then-is_last_beyond-clause-side c = grind (arith)

pub returns-else-inside-gt0-clause-reached : goal.returns-else-inside-gt0-clause-reached
returns-else-inside-gt0-clause-reached c = assumption arith

pub is_last_beyond-requires-clause-side : goal.is_last_beyond-requires-clause-side
is_last_beyond-requires-clause-side c = grind (arith)

pub narrow-requires-clause-side : goal.narrow-requires-clause-side
narrow-requires-clause-side c = grind (arith)

pub returns-else-inside-gt0-clause-side : goal.returns-else-inside-gt0-clause-side
returns-else-inside-gt0-clause-side c = grind (arith)
