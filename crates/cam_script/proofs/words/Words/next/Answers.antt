use Rattle.std.proofs.Common.{arith}
use Rattle.std.proofs.lemmas.Grind.{common_steps}
use Rattle.cam_script.proofs.words.Words.next.Goals as goal

pub loop-self-smaller : goal.loop-self-smaller
loop-self-smaller c = grind (arith)

pub returns-clause-none : goal.returns-clause-none
returns-clause-none c = grind (arith, common_steps)

pub first_piece-requires : goal.first_piece-requires
first_piece-requires c = grind (arith)
