use Rattle.std.proofs.Common.{arith, FitsSigned, rules}
use Rattle.std.specs.Int.{w128}
use Rattle.cam_rows.proofs.Quotients.{IsFloor, floor_of, is_rest, product_fits, rest_fits, whole_again}
use Rattle.cam_rows.proofs.slope.floor_division.Goals as goal
use Rattle.cam_rows.proofs.slope.floor_division.Goals.{After-floor_quotient-quotient}

fits : (c : After-floor_quotient-quotient) → FitsSigned w128 c.floor_quotient-quotient.result
fits c = search rules

floor : (c : After-floor_quotient-quotient) → IsFloor c.floor_quotient-quotient.result c.args.number c.args.divisor
floor c = search (rules, floor_of)

pub overflow_mul-result : goal.overflow_mul-result
overflow_mul-result c = search (rules, product_fits, fits, floor)

pub overflow_sub-result : goal.overflow_sub-result
overflow_sub-result c = grind (arith, rest_fits, fits, floor)

pub returns-clause-whole : goal.returns-clause-whole
returns-clause-whole c = grind (arith, whole_again, fits, floor)

pub returns-clause-rest : goal.returns-clause-rest
returns-clause-rest c = search (rules, is_rest, fits, floor)
