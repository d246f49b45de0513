use Rattle.std.proofs.Common.{arith, rules}
use Rattle.cam_numbers.proofs.Fractions.{whole_before, nothing_after, part_before, part_after}
use Rattle.cam_numbers.proofs.decimals.split_at_point.Goals as goal

pub returns-then-place-run-clause-whole : goal.returns-then-place-run-clause-whole
returns-then-place-run-clause-whole c = grind (arith, whole_before)

pub returns-then-place-run-clause-decimals : goal.returns-then-place-run-clause-decimals
returns-then-place-run-clause-decimals c = search (rules, nothing_after)

pub returns-clause-whole : goal.returns-clause-whole
returns-clause-whole c = grind (arith, part_before)

pub returns-clause-decimals : goal.returns-clause-decimals
returns-clause-decimals c = grind (arith, part_after)
