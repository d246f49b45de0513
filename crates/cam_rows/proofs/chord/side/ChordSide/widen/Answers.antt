use Rattle.std.proofs.Common.{arith}
use Rattle.cam_rows.proofs.Sides.{before_end, end_fits, reached_outwards}
use Rattle.cam_rows.proofs.chord.side.ChordSide.widen.Goals as goal
use Rattle.cam_rows.proofs.chord.side.ChordSide.widen.Goals.{then-loop-self-test+else-not-is_beyond, else-loop-self-test}

pub overflow_mul-end : goal.overflow_mul-end
overflow_mul-end g c = grind (arith, end_fits)

pub overflow_add-end : goal.overflow_add-end
overflow_add-end g c = grind (arith, end_fits)

pub overflow_add-self-in-loop-self : goal.overflow_add-self-in-loop-self
overflow_add-self-in-loop-self g c = grind (arith, before_end)

pub returns-clause-reached : goal.returns-clause-reached
returns-clause-reached g c =
    let s = c.loop-self.self in
    let side = c.loop-self.invariant.side in
    let before = before_end g.row.REACH _ c.args.self.now s side c.loop-self.invariant.same c.from.ensures in
    let reached = reached_outwards _ s c.args.room side c.loop-self.invariant.near
    (λ some. elim c.loop-self-test.branch [
      | then-loop-self-test+else-not-is_beyond w ↦ w.is_beyond.ensures.0 w.if-not-is_beyond.false
      | else-loop-self-test w ↦ absurd (omega (arith, before.1 some, w.loop-self-test.false))
    ]) in
    record { near = reached.near; beyond = reached.beyond }

pub is_beyond-requires-clause-near : goal.is_beyond-requires-clause-near
is_beyond-requires-clause-near g c =
    let s = c.loop-self.self in
    let side = c.loop-self.invariant.side in
    let some = (before_end g.row.REACH _ c.args.self.now s side c.loop-self.invariant.same c.from.ensures).0
    c.loop-self-test.true in
    rw side.next (side.near s.inside some)

pub loop-self-preserved : goal.loop-self-preserved
loop-self-preserved c = grind (arith)

pub returns-clause-side : goal.returns-clause-side
returns-clause-side c = assumption arith

pub loop-self-smaller : goal.loop-self-smaller
loop-self-smaller c = grind (arith)

pub loop-self-init : goal.loop-self-init
loop-self-init c = grind (arith)

pub overflow_add-self : goal.overflow_add-self
overflow_add-self c = grind (arith)
