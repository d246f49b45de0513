use Rattle.std.proofs.Common.{◌+◌, length, slice_index, arith}
use Rattle.cam_tiles.specs.Machinery.Inks.{in_box, in_row, in_runs, words_of}
use Rattle.cam_tiles.proofs.BoxInks.{box_runs}
use Rattle.cam_tiles.proofs.RunInks.{in_above, next_row, takes_all, takes_both, takes_same}
use Rattle.cam_tiles.proofs.masks.inks.taking.take_rows.Goals as goal

pub loop-row-preserved : goal.loop-row-preserved
loop-row-preserved c =
    let n = length c.args.next.now in
    let runs = c.args.runs.now in
    let k = c.loop-row.row in
    takes_both c.args.ink n (in_above runs k) (in_row k (slice_index runs.firsts k) (slice_index runs.ends k)) (in_above runs (k + 1))
    (words_of n c.args.decided.now c.args.dark.now) (words_of n c.loop-row.decided c.loop-row.dark) _ c.loop-row.invariant
    c.take_run.ensures (λ row column low within. next_row runs k row column c.loop-row.auto.row c.loop-row-test.true)

pub returns-then-are_box : goal.returns-then-are_box
returns-then-are_box c =
    let n = length c.args.next.now in
    let runs = c.args.runs.now in
    let first = runs.band.first in
    takes_same c.args.ink n (in_box runs.band (slice_index runs.firsts first) (slice_index runs.ends first)) (in_runs runs) _ _
    (rw (c.columns.ensures.first, c.columns.ensures.end) at c.take_box.ensures)
    (λ row column low within. box_runs runs row column (c.are_box.ensures.0 c.if-are_box.true))

pub returns : goal.returns
returns c =
    takes_all c.args.ink (length c.args.next.now) c.args.runs.now c.loop-row.row _ _ (omega (arith, c.loop-row-test.false))
    c.loop-row.invariant

pub take_run-requires-clause-known : goal.take_run-requires-clause-known
take_run-requires-clause-known c = grind (arith)
