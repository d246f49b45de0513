use Rattle.std.proofs.Common.{arith}
use Rattle.cam_words.proofs.Ordinary.{word_is, word_is_bad}
use Rattle.cam_words.proofs.command.front_word.Goals as goal

pub returns-clause-text : goal.returns-clause-text
returns-clause-text c = grind (arith, word_is)

pub returns-clause-bad : goal.returns-clause-bad
returns-clause-bad c = grind (arith, word_is_bad, word_is)
