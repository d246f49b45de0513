use Rattle.std.proofs.Common.{◌↔◌, ℕ, pos, ◌+ℤ◌, ◌-ℤ◌, ◌*ℤ◌, ◌≤ℤ◌, arith}
use Rattle.std.proofs.lemmas.Grind.{common_steps}
use Rattle.std.proofs.lemmas.Int.{ints}
use Rattle.cam_rows.proofs.Quotients.{kept_divisor, kept_number}
use Rattle.cam_rows.proofs.SlopeBits.{quotient_tells}
use Rattle.cam_rows.proofs.slope.columns_up_to.Goals as goal
use Rattle.cam_rows.proofs.slope.columns_up_to.Goals.{After-floor_division-last}

tells : (c : After-floor_division-last) (i : ℕ)
    → (pos i ≤ℤ c.floor_division-last.result.0)
    ↔ (pos 0 ≤ℤ (c.args.number +ℤ pos i *ℤ (pos 0 -ℤ c.args.divisor)))
tells c i =
    let last = c.floor_division-last in
    let same = kept_divisor c.args.divisor c.requires.divisor in
    quotient_tells last.result.0 c.args.divisor last.result.1 c.args.number i c.requires.divisor.0
    (rw same at last.ensures.rest)
    (rw (same, kept_number c.args.number (omega (arith, c.requires.number))) at last.ensures.whole)

pub returns-then-last-from-clause-each : goal.returns-then-last-from-clause-each
returns-then-last-from-clause-each c = λ i small.
    let told = tells (goal.at.returns-then-last-from-clause-each c).After-floor_division-last i in
    ((λ _. told.0 (omega (arith, ints, small))), (λ _. small))

pub returns-clause-each : goal.returns-clause-each
returns-clause-each c = λ i small.
    let told = tells (goal.at.returns-clause-each c).After-floor_division-last i in
    ((λ early. told.0 (omega (arith, ints, early))), (λ up. let near = told.1 up in omega (arith, ints, near)))

pub returns-clause-within : goal.returns-clause-within
returns-clause-within c = grind (arith, common_steps)

pub returns-then-last-lt0-clause-each : goal.returns-then-last-lt0-clause-each
returns-then-last-lt0-clause-each c = grind (arith, common_steps)

pub overflow_add-result : goal.overflow_add-result
overflow_add-result c = grind (arith, common_steps)

pub overflow_cast-result : goal.overflow_cast-result
overflow_cast-result c = grind (arith, common_steps)
