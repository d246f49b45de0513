use Rattle.std.proofs.Common.{arith}
use Rattle.cam_script.proofs.words.Words.one.Goals as goal

pub returns-then-is_some-clause-none : goal.returns-then-is_some-clause-none
returns-then-is_some-clause-none c = grind (arith)

pub returns-in_err-first-clause-some : goal.returns-in_err-first-clause-some
returns-in_err-first-clause-some c = grind (arith)
