use Rattle.std.proofs.Common.{◌+◌, ◌-◌, ◌*◌, ◌/◌, ◌%◌, length, arith}
use Rattle.cam_tiles.specs.Machinery.Inks.{Inked, Takes, in_row, words_of}
use Rattle.cam_tiles.proofs.RunInks.{same_columns, takes_both, takes_same, turned, two_parts}
use Rattle.cam_tiles.proofs.masks.inks.taking.take_long.Goals as goal

pub returns : goal.returns
returns c = λ ink inked.
    let n = length c.args.next.now in
    let of = c.args.row in
    let first = c.args.columns.first in
    let end = c.args.columns.end in
    let from = first / 64 in
    let last = (end - 1) / 64 in
    let right = (end - 1) % 64 + 1 in
    let old : Inked = words_of n c.args.decided.now c.args.dark.now in
    let one : Inked = words_of n c.take_whole.new.decided c.take_whole.new.dark in
    let two : Inked = words_of n c.take_part.new.decided c.take_part.new.dark in
    let three : Inked = words_of n c.take_part-2.new.decided c.take_part-2.new.dark in
    let some = c.requires.several in
    let head : Takes 0 n (in_row of first (64 * (from + 1))) ink one two =
    takes_same ink n (in_row of (64 * from + first % 64) (64 * from + 64)) (in_row of first (64 * (from + 1))) one two
    (c.take_part.ensures n ink inked) (λ row column low within.
    same_columns of row column (64 * from + first % 64) (64 * from + 64) first (64 * (from + 1)) (
      (λ h. (omega (arith, h.0), omega (arith, h.1))),
      (λ h. (omega (arith, h.0), omega (arith, h.1))),
    )) in
    let front : Takes 0 n (in_row of first (64 * last)) ink old two =
    takes_both ink n (in_row of (64 * (from + 1)) (64 * last)) (in_row of first (64 * (from + 1))) (in_row of first (64 * last))
    old one two (c.take_whole.ensures ink inked) head
    (λ row column low within.
    turned (two_parts of row column first (64 * (from + 1)) (64 * last) (omega arith) (omega (arith, some)))) in
    let tail : Takes 0 n (in_row of (64 * last) end) ink two three =
    takes_same ink n (in_row of (64 * last + 0) (64 * last + right)) (in_row of (64 * last) end) two three
    (c.take_part-2.ensures n ink inked) (λ row column low within.
    same_columns of row column (64 * last + 0) (64 * last + right) (64 * last) end (
      (λ h. (omega (arith, h.0), omega (arith, h.1, c.requires.some))),
      (λ h. (omega (arith, h.0), omega (arith, h.1, c.requires.some))),
    )) in
    takes_both ink n (in_row of first (64 * last)) (in_row of (64 * last) end) (in_row of first end) old two three front tail
    (λ row column low within.
    two_parts of row column first (64 * last) end (omega (arith, some)) (omega (arith, some)))
