use Rattle.std.proofs.Common.{arith}
use Rattle.cam_tiles.proofs.InkWords.{word_taken}
use Rattle.cam_tiles.proofs.masks.inks.taking.take_word.Goals as goal

pub returns : goal.returns
returns c = λ i small. grind (arith, word_taken)
