use Rattle.std.proofs.Common.{arith}
use Rattle.std.proofs.lemmas.Bool.{cases_eq}
use Rattle.cam_tiles.proofs.InkWords.{all_set_is_most, set_in_all}
use Rattle.cam_tiles.proofs.masks.inks.known_rows.Goals as goal

pub loop-row-preserved : goal.loop-row-preserved
loop-row-preserved c = λ row i early small. grind (arith, cases_eq, set_in_all)

pub returns-then-words-row-clause-open : goal.returns-then-words-row-clause-open
returns-then-words-row-clause-open c = λ few all. c.if-words-row.true (all_set_is_most _ (omega arith) all)
