use Rattle.std.proofs.Common.{◌+◌, ◌*◌, arith}
use Rattle.cam_tiles.specs.Machinery.Inks.{in_box, in_row, words_of}
use Rattle.cam_tiles.proofs.BoxInks.{box_above_told, box_told, in_box_above, next_box_row}
use Rattle.cam_tiles.proofs.RunInks.{takes_both, takes_done, takes_same}
use Rattle.cam_tiles.proofs.masks.inks.taking.take_part_of_rows.Goals as goal

pub loop-row-init : goal.loop-row-init
loop-row-init c = λ tiles polarity inked.
    let rows = c.args.rows in
    takes_done polarity 0 tiles _ (words_of tiles c.args.decided.now c.args.dark.now) (λ row column low within on.
    let h = (box_above_told rows rows.first _ _ row column).0 on in absurd (omega (arith, h.0, h.1.0)))

pub loop-row-preserved : goal.loop-row-preserved
loop-row-preserved c = λ tiles polarity inked.
    let rows = c.args.rows in
    let k = c.loop-row.row in
    let first = 64 * c.args.tile + c.args.columns.first in
    let end = 64 * c.args.tile + c.args.columns.end in
    takes_both polarity tiles (in_box_above rows k first end) (in_row k first end) (in_box_above rows (k + 1) first end)
    (words_of tiles c.args.decided.now c.args.dark.now) (words_of tiles c.loop-row.decided c.loop-row.dark) _
    (c.loop-row.invariant tiles polarity inked) (c.take_part.ensures tiles polarity inked)
    (λ row column low within. next_box_row rows k first end row column c.loop-row.auto.row c.loop-row-test.true)

pub returns : goal.returns
returns c = λ tiles polarity inked.
    let rows = c.args.rows in
    let k = c.loop-row.row in
    let first = 64 * c.args.tile + c.args.columns.first in
    let end = 64 * c.args.tile + c.args.columns.end in
    takes_same polarity tiles (in_box_above rows k first end) (in_box rows first end)
    (words_of tiles c.args.decided.now c.args.dark.now) (words_of tiles c.loop-row.decided c.loop-row.dark)
    (c.loop-row.invariant tiles polarity inked) (λ row column low within.
    let above = box_above_told rows k first end row column in
    let all = box_told rows first end row column in (
      (λ on. let h = above.0 on in all.1 (h.1, h.2)),
      (λ on. let h = all.0 on in above.1 (omega (arith, h.0.1, c.loop-row-test.false), h.0, h.1)),
    ))
