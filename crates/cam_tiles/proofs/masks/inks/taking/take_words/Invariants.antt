use Rattle.cam_tiles.proofs.InkWords.{AreTaken}
use Rattle.cam_tiles.proofs.masks.inks.taking.take_words.Given as goal

abbrev pub invariant-loop-k : goal.invariant-loop-k
invariant-loop-k l = AreTaken l.fn.ink l.bits l.fn.decided l.fn.dark l.k l.decided l.dark
