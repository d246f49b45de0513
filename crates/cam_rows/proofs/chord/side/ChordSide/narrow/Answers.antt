use Rattle.std.proofs.Common.{arith}
use Rattle.std.proofs.lemmas.Bool.{false≢true}
use Rattle.cam_rows.proofs.Sides.{beyond_from, last_is, past_start, reached_inwards}
use Rattle.cam_rows.proofs.chord.side.ChordSide.narrow.Goals as goal
use Rattle.cam_rows.proofs.chord.side.ChordSide.narrow.Goals.{then-loop-self-test+else-is_last_beyond, else-loop-self-test}

pub is_last_beyond-requires-clause-some : goal.is_last_beyond-requires-clause-some
is_last_beyond-requires-clause-some g c = grind (arith, past_start)

pub loop-self-preserved : goal.loop-self-preserved
loop-self-preserved g c = grind (arith, past_start, last_is, beyond_from)

pub returns-clause-reached : goal.returns-clause-reached
returns-clause-reached g c =
    let reached = reached_inwards _ c.loop-self.self c.args.room c.loop-self.invariant.side c.loop-self.invariant.beyond
    (λ some. elim c.loop-self-test.branch [
      | then-loop-self-test+else-is_last_beyond w ↦ (λ here. absurd (false≢true (w.if-is_last_beyond.ensures.1 here)))
      | else-loop-self-test w ↦ absurd (omega (arith, (past_start g.row.REACH c.loop-self.self c.loop-self.invariant.side).1 some, w.loop-self-test.false))
    ]) in
    record { near = reached.near; beyond = reached.beyond }

pub loop-self-init : goal.loop-self-init
loop-self-init c = grind (arith)

pub overflow_sub-self-in-loop-self : goal.overflow_sub-self-in-loop-self
overflow_sub-self-in-loop-self c = grind (arith)

pub overflow_sub-self : goal.overflow_sub-self
overflow_sub-self c = grind (arith)

pub is_last_beyond-requires-clause-side : goal.is_last_beyond-requires-clause-side
is_last_beyond-requires-clause-side c = grind (arith)

pub loop-self-smaller : goal.loop-self-smaller
loop-self-smaller c = grind (arith)

pub returns-clause-side : goal.returns-clause-side
returns-clause-side c = assumption arith
