use Rattle.std.proofs.Common.{arith}
use Rattle.std.proofs.lemmas.Grind.{common_steps}
use Rattle.cam_script.proofs.Cutting.{words_by_piece}
use Rattle.cam_script.proofs.words.first_piece.Goals as goal

pub returns-in-Some-clause-words : goal.returns-in-Some-clause-words
returns-in-Some-clause-words c = grind (arith, words_by_piece)

pub returns-in-None-clause-words : goal.returns-in-None-clause-words
returns-in-None-clause-words c = grind (arith, words_by_piece)

pub returns-in-Some-clause-shorter : goal.returns-in-Some-clause-shorter
returns-in-Some-clause-shorter c = grind (arith, common_steps)
