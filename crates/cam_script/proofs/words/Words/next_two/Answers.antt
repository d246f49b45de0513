use Rattle.std.proofs.Common.{arith}
use Rattle.cam_script.proofs.words.Words.next_two.Goals as goal

pub returns-in_err-first-clause-none : goal.returns-in_err-first-clause-none
returns-in_err-first-clause-none c = grind (arith)

pub returns-clause-taken : goal.returns-clause-taken
returns-clause-taken c = grind (arith)

pub returns-clause-some : goal.returns-clause-some
returns-clause-some c = grind (arith)

pub returns-in_err-first-clause-taken : goal.returns-in_err-first-clause-taken
returns-in_err-first-clause-taken c = grind (arith)

pub returns-in_err-second-clause-taken : goal.returns-in_err-second-clause-taken
returns-in_err-second-clause-taken c = grind (arith)

pub returns-in_err-second-clause-some : goal.returns-in_err-second-clause-some
returns-in_err-second-clause-some c = grind (arith)

pub returns-in_err-second-clause-none : goal.returns-in_err-second-clause-none
returns-in_err-second-clause-none c = grind (arith)

pub returns-in_err-first-clause-some : goal.returns-in_err-first-clause-some
returns-in_err-first-clause-some c = grind (arith)
