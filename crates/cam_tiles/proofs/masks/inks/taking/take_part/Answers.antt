use Rattle.std.proofs.Common.{◌+◌, ◌*◌, arith}
use Rattle.cam_tiles.specs.Machinery.Inks.{in_row}
use Rattle.cam_tiles.proofs.RunInks.{part_bits, takes_word}
use Rattle.cam_tiles.proofs.masks.inks.taking.take_part.Goals as goal

pub returns : goal.returns
returns c = λ tiles polarity inked.
    let tile = c.args.tile in
    let row = c.args.row in
    let first = c.args.columns.first in
    let end = c.args.columns.end in
    takes_word polarity tiles tile row c.bits-bits.result (in_row row (64 * tile + first) (64 * tile + end)) c.args.decided.now
    c.args.dark.now _ _ c.args.ink c.requires.row (omega arith) (omega arith)
    (λ r column. part_bits row r column tile first end c.bits-bits.result c.requires.end c.bits-bits.ensures)
    c.take_word.ensures inked
