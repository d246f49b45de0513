use Rattle.std.proofs.Common.{arith}
use Rattle.cam_numbers.proofs.Naturals.{within_of_none, within_of_empty, within_of_long, within_of_digits, within_is_below}
use Rattle.cam_numbers.proofs.whole.natural_within.Goals as goal

pub returns-in_err-digits-clause-value : goal.returns-in_err-digits-clause-value
returns-in_err-digits-clause-value c = grind (arith, within_of_none)

pub returns-then-digits-eq0-clause-value : goal.returns-then-digits-eq0-clause-value
returns-then-digits-eq0-clause-value c = grind (arith, within_of_empty)

pub returns-then-digits-most-clause-value : goal.returns-then-digits-most-clause-value
returns-then-digits-most-clause-value c = grind (arith, within_of_long)

pub returns-clause-value : goal.returns-clause-value
returns-clause-value c = grind (arith, within_of_digits)

pub returns-clause-bound : goal.returns-clause-bound
returns-clause-bound c = grind (arith, within_is_below)
