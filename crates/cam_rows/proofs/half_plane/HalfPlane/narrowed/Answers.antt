use Rattle.std.proofs.Common.{inl, inr, ◌^◌, ◌<◌, arith, rules}
use Rattle.std.proofs.lemmas.Grind.{common_steps}
use Rattle.std.specs.Int.RustNames.{unsigned_abs}
use Rattle.std.proofs.lemmas.Bool.{cases_lt}
use Rattle.cam_rows.proofs.HalfPlanes.{falling_told, rising_told}
use Rattle.cam_rows.proofs.half_plane.HalfPlane.narrowed.Goals as goal
use Rattle.cam_rows.proofs.half_plane.HalfPlane.narrowed.Goals.{After-number_below-number}

short : (c : After-number_below-number) → unsigned_abs c.number_below-number.result < 2 ^ 100
short c = rw c.number_below-number.ensures (c.requires.short.rows c.args.steps (omega arith))

pub returns-then-step-lt0-clause-each : goal.returns-then-step-lt0-clause-each
returns-then-step-lt0-clause-each c = λ i small.
    let number = c.number_below-number in
    let told = falling_told c.args.self.now c.args.steps i c.columns_up_to.result number.result number.ensures
    (short (goal.at.returns-then-step-lt0-clause-each c).After-number_below-number) c.requires.short.plane.step
    (c.columns_up_to.ensures.each i small) in
    let least = c.min.ensures in (
      (λ on. ((on.0, omega (arith, least, on.1)), told.0 (omega (arith, least, on.1)))),
      (λ both. let early = told.1 both.1 in (both.0.0, omega (arith, least, early, both.0.1))),
    )

pub returns-then-step-gt0-clause-each : goal.returns-then-step-gt0-clause-each
returns-then-step-gt0-clause-each c = λ i small.
    let number = c.number_below-number in
    let before = c.columns_up_to-then-step-gt0 in
    let told = rising_told c.args.self.now c.args.steps i before.result number.result number.ensures
    (short (goal.at.returns-then-step-gt0-clause-each c).After-number_below-number) c.requires.short.plane.step
    (before.ensures.each i small) in
    let most = c.max.ensures in (
      (λ on. ((omega (arith, most, on.0), on.1), told.1 (λ early. absurd (omega (arith, most, on.0, early))))),
      (λ both. elim (cases_lt i before.result) [
        | inl early ↦ absurd (told.0 both.1 early)
        | inr late ↦ (omega (arith, most, both.0.0, late), both.0.1)
      ]),
    )

pub number_below-number-requires : goal.number_below-number-requires
number_below-number-requires c = assumption arith

pub overflow_sub-step : goal.overflow_sub-step
overflow_sub-step c = grind (arith, common_steps)

pub columns_up_to-requires-then-step-gt0-clause-number : goal.columns_up_to-requires-then-step-gt0-clause-number
columns_up_to-requires-then-step-gt0-clause-number c = search rules

pub columns_up_to-requires-clause-number : goal.columns_up_to-requires-clause-number
columns_up_to-requires-clause-number c = grind (arith)

pub returns-then-number-lt0-clause-each : goal.returns-then-number-lt0-clause-each
returns-then-number-lt0-clause-each c = grind (arith, common_steps)

pub columns_up_to-requires-clause-divisor : goal.columns_up_to-requires-clause-divisor
columns_up_to-requires-clause-divisor c = grind (arith)

pub overflow_sub-number : goal.overflow_sub-number
overflow_sub-number c = grind (arith, common_steps)

pub returns-clause-each : goal.returns-clause-each
returns-clause-each c = grind (arith, common_steps)

pub columns_up_to-requires-then-step-gt0-clause-divisor : goal.columns_up_to-requires-then-step-gt0-clause-divisor
columns_up_to-requires-then-step-gt0-clause-divisor c = grind (arith)
