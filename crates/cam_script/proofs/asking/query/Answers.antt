use Rattle.std.proofs.Common.{arith, rules}
use Rattle.cam_script.proofs.Queries.{by_places}
use Rattle.cam_script.proofs.asking.query.Goals as goal

pub returns-in_err-k : goal.returns-in_err-k
returns-in_err-k c = grind (arith, by_places)

pub returns-in_err-from-2 : goal.returns-in_err-from-2
returns-in_err-from-2 c = grind (arith)

pub returns-then-is-8 : goal.returns-then-is-8
returns-then-is-8 c = search rules

pub returns-in_err-from : goal.returns-in_err-from
returns-in_err-from c = grind (arith, by_places)

pub returns-in_err-i : goal.returns-in_err-i
returns-in_err-i c = search (rules, by_places)

pub returns-then-is-7 : goal.returns-then-is-7
returns-then-is-7 c = grind (arith)
