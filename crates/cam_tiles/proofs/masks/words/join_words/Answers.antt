use Rattle.std.proofs.Common.{◌≡◌, ◌+◌, ◌*◌, ◌/◌, ◌%◌, ◌<◌, IsTrue, length, slice_index, arith}
use Rattle.std.specs.Int.{IsBitSet}
use Rattle.cam_tiles.specs.Machinery.Marks.{is_marked}
use Rattle.cam_tiles.proofs.JoinedWords.{joins_more, next_word, word_joined}
use Rattle.cam_tiles.proofs.masks.words.join_words.Goals as goal

pub loop-k-preserved : goal.loop-k-preserved
loop-k-preserved c =
    let here = c.loop-k in
    let others = c.args.others.now in
    let k = here.k in
    joins_more (length c.args.words.now) c.args.how
    (λ row column. (64 * (column / 64) + row < k) × IsTrue (is_marked others row column))
    (λ row column. (row ≡ k % 64) × (column / 64 ≡ k / 64) × IsBitSet (slice_index others k) (column % 64))
    (λ row column. (64 * (column / 64) + row < k + 1) × IsTrue (is_marked others row column))
    c.args.words.now here.words _ (λ row column low near. next_word others k row column low) here.invariant
    (word_joined (length c.args.words.now) c.args.how here.words (k / 64) (k % 64) k c.join_row.result
    (slice_index others k) (omega arith) (omega arith) (omega arith) c.join_row.ensures)

pub returns : goal.returns
returns c = grind (arith)
