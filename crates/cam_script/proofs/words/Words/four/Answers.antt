use Rattle.std.proofs.Common.{arith}
use Rattle.cam_script.proofs.words.Words.four.Goals as goal

pub returns-in_err-first-clause-none : goal.returns-in_err-first-clause-none
returns-in_err-first-clause-none c = grind (arith)

pub returns-clause-some : goal.returns-clause-some
returns-clause-some c = grind (arith)

pub returns-clause-none : goal.returns-clause-none
returns-clause-none c = grind (arith)

pub returns-in_err-first-clause-some : goal.returns-in_err-first-clause-some
returns-in_err-first-clause-some c = grind (arith)

pub returns-in_err-second-clause-none : goal.returns-in_err-second-clause-none
returns-in_err-second-clause-none c = grind (arith)

pub returns-in_err-second-clause-some : goal.returns-in_err-second-clause-some
returns-in_err-second-clause-some c = grind (arith)
