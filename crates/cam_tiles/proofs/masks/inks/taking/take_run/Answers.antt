use Rattle.std.proofs.Common.{◌≡◌, ◌+◌, ◌-◌, ◌*◌, ◌/◌, ◌%◌, length, arith}
use Rattle.cam_tiles.specs.Machinery.Inks.{in_row, words_of}
use Rattle.cam_tiles.proofs.RunInks.{same_columns, takes_same}
use Rattle.cam_tiles.proofs.masks.inks.taking.take_run.Goals as goal

pub returns-then-first-end : goal.returns-then-first-end
returns-then-first-end c =
    let n = length c.args.next.now in
    let of = c.args.row in
    let first = c.args.columns.first in
    let end = c.args.columns.end in
    let until = c.min-end.result in
    let from = 64 * (first / 64) + first % 64 in
    let to = 64 * (first / 64) + ((until - 1) % 64 + 1) in
    let whole : from ≡ first = omega arith in
    let last : to ≡ until = omega (arith, c.if-first-end.true, c.if-end-first.false) in
    takes_same c.args.ink n (in_row of from to) (in_row of first end) (words_of n c.args.decided.now c.args.dark.now) _
    (c.take_part.ensures n c.args.ink c.ink_word-ink.ensures) (λ row column low within.
    same_columns of row column from to first end (
      (λ h. (omega (arith, h.0, whole), omega (arith, h.1, last, c.min-end.ensures))),
      (λ h. (omega (arith, h.0, whole), omega (arith, h.1, last, c.min-end.ensures, within))),
    ))

pub returns-else-first-end : goal.returns-else-first-end
returns-else-first-end c =
    let n = length c.args.next.now in
    let of = c.args.row in
    let first = c.args.columns.first in
    let end = c.args.columns.end in
    let until = c.min-end.result in
    takes_same c.args.ink n (in_row of first until) (in_row of first end) (words_of n c.args.decided.now c.args.dark.now) _
    (c.take_long.ensures c.args.ink c.ink_word-ink.ensures) (λ row column low within.
    same_columns of row column first until first end (
      (λ h. (h.0, omega (arith, h.1, c.min-end.ensures))),
      (λ h. (h.0, omega (arith, h.1, c.min-end.ensures, within))),
    ))
