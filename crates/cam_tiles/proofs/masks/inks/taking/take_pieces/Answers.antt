use Rattle.std.proofs.Common.{length, arith}
use Rattle.cam_tiles.proofs.RunInks.{takes_joined, takes_next, takes_body, takes_two, next_stays}
use Rattle.cam_tiles.proofs.masks.inks.taking.take_pieces.Goals as goal

pub loop-row-preserved : goal.loop-row-preserved
loop-row-preserved c =
    let n = length c.args.next.now in
    let k = c.loop-row.row in
    let front = c.pieces.result.0 in
    let back = c.pieces.result.1 in
    takes_next c.args.ink n k c.args.runs.now _ _ _ _ c.loop-row.invariant (takes_joined c.args.ink n k _ _ _ _ _
    (takes_two c.args.ink n k front.0 front.1 _ _ _ c.take_run.ensures c.take_run-in-loop-row.ensures)
    (takes_two c.args.ink n k back.0 back.1 _ _ _ c.take_run-in-loop-row-2.ensures c.take_run-in-loop-row-3.ensures))
    c.pieces.ensures

pub returns : goal.returns
returns c =
    takes_body c.args.ink (length c.args.next.now) c.args.runs.now c.loop-row.row _ _ c.loop-row.invariant c.loop-row-test.false

pub take_run-requires-clause-known : goal.take_run-requires-clause-known
take_run-requires-clause-known c = next_stays c.args.ink _ _ _ _ c.loop-row.invariant c.requires.known

pub take_run-requires-in-loop-row-clause-known : goal.take_run-requires-in-loop-row-clause-known
take_run-requires-in-loop-row-clause-known c =
    let before = next_stays c.args.ink _ _ _ _ c.loop-row.invariant c.requires.known in
    next_stays c.args.ink _ _ _ _ c.take_run.ensures before

pub take_run-requires-in-loop-row-2-clause-known : goal.take_run-requires-in-loop-row-2-clause-known
take_run-requires-in-loop-row-2-clause-known c =
    let before = next_stays c.args.ink _ _ _ _ c.loop-row.invariant c.requires.known in
    let before = next_stays c.args.ink _ _ _ _ c.take_run.ensures before in
    next_stays c.args.ink _ _ _ _ c.take_run-in-loop-row.ensures before

pub take_run-requires-in-loop-row-3-clause-known : goal.take_run-requires-in-loop-row-3-clause-known
take_run-requires-in-loop-row-3-clause-known c =
    let before = next_stays c.args.ink _ _ _ _ c.loop-row.invariant c.requires.known in
    let before = next_stays c.args.ink _ _ _ _ c.take_run.ensures before in
    let before = next_stays c.args.ink _ _ _ _ c.take_run-in-loop-row.ensures before in
    next_stays c.args.ink _ _ _ _ c.take_run-in-loop-row-2.ensures before

pub take_run-requires-in-loop-row-3-clause-dark : goal.take_run-requires-in-loop-row-3-clause-dark
take_run-requires-in-loop-row-3-clause-dark c = grind (arith)

pub take_run-requires-in-loop-row-3-clause-few : goal.take_run-requires-in-loop-row-3-clause-few
take_run-requires-in-loop-row-3-clause-few c = assumption arith

pub take_run-requires-in-loop-row-3-clause-row : goal.take_run-requires-in-loop-row-3-clause-row
take_run-requires-in-loop-row-3-clause-row c = grind (arith)

pub take_run-requires-in-loop-row-3-clause-decided : goal.take_run-requires-in-loop-row-3-clause-decided
take_run-requires-in-loop-row-3-clause-decided c = grind (arith)

pub take_run-requires-in-loop-row-2-clause-few : goal.take_run-requires-in-loop-row-2-clause-few
take_run-requires-in-loop-row-2-clause-few c = assumption arith
