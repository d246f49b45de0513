use Rattle.std.proofs.Common.{◌+◌, ◌*◌, ◌/◌, ◌<◌, IsTrue, length}
use Rattle.cam_tiles.specs.Machinery.Marks.{is_marked}
use Rattle.cam_tiles.specs.Machinery.Words.{JoinsColumns}
use Rattle.cam_tiles.proofs.masks.words.join_words.Given as goal

abbrev pub invariant-loop-k : goal.invariant-loop-k
invariant-loop-k l =
    JoinsColumns (length l.fn.words) l.how
    (λ row column. (64 * (column / 64) + row < l.k) × IsTrue (is_marked l.others row column)) l.fn.words l.words
