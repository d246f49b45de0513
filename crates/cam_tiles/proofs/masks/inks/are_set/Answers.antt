use Rattle.std.proofs.Common.{arith}
use Rattle.std.proofs.lemmas.Bool.{cases_eq, false≢true}
use Rattle.cam_tiles.proofs.InkWords.{bits_by_set, set_by_bits}
use Rattle.cam_tiles.proofs.masks.inks.are_set.Goals as goal

pub loop-row-init : goal.loop-row-init
loop-row-init c = λ row i after until small on. absurd (omega (arith, after, until))

pub loop-row-preserved : goal.loop-row-preserved
loop-row-preserved c = λ row i after until small on. grind (arith, cases_eq, set_by_bits)

pub returns-then-words-tile : goal.returns-then-words-tile
returns-then-words-tile c = grind (arith, false≢true, bits_by_set)

pub returns : goal.returns
returns c = grind arith
