use Rattle.std.proofs.Common.{arith}
use Rattle.cam_macros.proofs.Marks.{ended_wanted, ended_behind}
use Rattle.cam_macros.proofs.parsing.scanner.steps.Goals as goal

pub returns-then-rest-2-clause-fault : goal.returns-then-rest-2-clause-fault
returns-then-rest-2-clause-fault c = grind (arith, ended_wanted)

pub returns-clause-ok : goal.returns-clause-ok
returns-clause-ok c = grind (arith, ended_behind)

pub returns-clause-fault : goal.returns-clause-fault
returns-clause-fault c = grind (arith, ended_behind)

pub loop-first-smaller : goal.loop-first-smaller
loop-first-smaller c = grind (arith)

pub loop-first-smaller-in_ok-rest : goal.loop-first-smaller-in_ok-rest
loop-first-smaller-in_ok-rest c = grind (arith)
