use Rattle.std.proofs.Common.{arith}
use Rattle.cam_script.proofs.parse.line_of.Goals as goal

pub returns-then-is-4 : goal.returns-then-is-4
returns-then-is-4 c = grind (arith)

pub returns-then-is-5 : goal.returns-then-is-5
returns-then-is-5 c = grind (arith)

pub returns-then-is-9 : goal.returns-then-is-9
returns-then-is-9 c = grind (arith)

pub returns-then-is-2 : goal.returns-then-is-2
returns-then-is-2 c = grind (arith)

pub returns-then-is-8 : goal.returns-then-is-8
returns-then-is-8 c = grind (arith)

pub returns-then-is-3 : goal.returns-then-is-3
returns-then-is-3 c = grind (arith)

pub returns-then-is-10 : goal.returns-then-is-10
returns-then-is-10 c = grind (arith)

pub returns-then-is : goal.returns-then-is
returns-then-is c = grind (arith)

pub returns-else-is-11 : goal.returns-else-is-11
returns-else-is-11 c = grind (arith)

pub returns-then-is-7 : goal.returns-then-is-7
returns-then-is-7 c = grind (arith)

pub returns-then-is-11 : goal.returns-then-is-11
returns-then-is-11 c = grind (arith)

pub returns-then-is-6 : goal.returns-then-is-6
returns-then-is-6 c = grind (arith)
