use Rattle.std.proofs.Common.{arith}
use Rattle.cam_numbers.proofs.Fractions.{decimal_without_whole, decimal_without_decimals, decimal_without_digit}
use Rattle.cam_numbers.proofs.Fractions.{decimal_too_much, decimal_of_parts}
use Rattle.cam_numbers.proofs.decimals.unsigned_decimal.Goals as goal

pub returns-in_err-whole-clause-value : goal.returns-in_err-whole-clause-value
returns-in_err-whole-clause-value c = grind (arith, decimal_without_whole)

pub returns-in_err-decimals-clause-value : goal.returns-in_err-decimals-clause-value
returns-in_err-decimals-clause-value c = grind (arith, decimal_without_decimals)

pub returns-then-decimals-eq0-clause-value : goal.returns-then-decimals-eq0-clause-value
returns-then-decimals-eq0-clause-value c = grind (arith, decimal_without_digit)

pub returns-then-whole-ge1000000-clause-value : goal.returns-then-whole-ge1000000-clause-value
returns-then-whole-ge1000000-clause-value c = grind (arith, decimal_too_much)

pub returns-clause-value : goal.returns-clause-value
returns-clause-value c = grind (arith, decimal_of_parts)
