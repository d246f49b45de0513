use Rattle.std.proofs.Common.{FitsSigned, ◌<ℤ◌, ◌≤ℤ◌, pos, arith, rules}
use Rattle.std.proofs.lemmas.Grind.{common_steps}
use Rattle.std.specs.Int.{w128}
use Rattle.std.proofs.lemmas.Int.{ints}
use Rattle.cam_rows.proofs.Quotients.{floor_down, floor_up}
use Rattle.cam_rows.proofs.slope.floor_quotient.Goals as goal

pub returns-then-number-lt0 : goal.returns-then-number-lt0
returns-then-number-lt0 c =
    let fits : FitsSigned w128 c.args.number = search rules in
    let down : c.args.number <ℤ pos 0 = omega (arith, ints) in
    let floor = floor_down _ c.args.divisor c.quotient.result c.requires.divisor fits down c.quotient.ensures in
    record { least = floor.least; greatest = floor.greatest }

pub returns : goal.returns
returns c =
    let fits : FitsSigned w128 c.args.number = search rules in
    let up : pos 0 ≤ℤ c.args.number = omega (arith, ints) in
    let floor = floor_up _ c.args.divisor c.quotient-2.result c.requires.divisor fits up c.quotient-2.ensures in
    record { least = floor.least; greatest = floor.greatest }

pub quotient-requires-2 : goal.quotient-requires-2
quotient-requires-2 c = grind (arith)

pub overflow_cast-divisor-2 : goal.overflow_cast-divisor-2
overflow_cast-divisor-2 c = grind (arith, common_steps)

pub overflow_cast-result-2 : goal.overflow_cast-result-2
overflow_cast-result-2 c = grind (arith)

pub overflow_cast-result : goal.overflow_cast-result
overflow_cast-result c = grind (arith, common_steps)

pub overflow_cast-number-2 : goal.overflow_cast-number-2
overflow_cast-number-2 c = grind (arith)

pub overflow_cast-divisor : goal.overflow_cast-divisor
overflow_cast-divisor c = grind (arith, common_steps)

pub overflow_sub-result : goal.overflow_sub-result
overflow_sub-result c = grind (arith, common_steps)

pub quotient-requires : goal.quotient-requires
quotient-requires c = grind (arith)

pub overflow_cast-number : goal.overflow_cast-number
overflow_cast-number c = grind (arith, common_steps)
