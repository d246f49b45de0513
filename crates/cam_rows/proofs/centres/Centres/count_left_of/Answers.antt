use Rattle.std.proofs.Common.{◌≡◌, ◌≤◌, pos, arith, rules}
use Rattle.std.proofs.lemmas.Grind.{common_steps}
use Rattle.std.specs.Int.RustNames.{unsigned_abs}
use Rattle.std.proofs.lemmas.Int.{ints}
use Rattle.cam_shapes.proofs.Widths.{narrow}
use Rattle.cam_rows.proofs.Steps.{all_left, few_before, first_near, last_near, left_by_division, reach_fits}
use Rattle.cam_rows.proofs.centres.Centres.count_left_of.Goals as goal
use Rattle.cam_rows.proofs.centres.Centres.count_left_of.Goals.{After-from, After-div_ceil}

is_pitch : (c : After-from) → c.args.self.now.step ≡ pos (unsigned_abs (narrow c.args.self.now.step))
is_pitch c = omega (arith, ints, c.requires.row.step)

pub overflow_mul-from : goal.overflow_mul-from
overflow_mul-from c = grind (arith, reach_fits, is_pitch, first_near, last_near)

pub returns-then-gap-from-clause-each : goal.returns-then-gap-from-clause-each
returns-then-gap-from-clause-each c = λ i within.
    let row = c.args.self.now in
    let first = first_near row c.requires.row in
    all_left row.x row.step c.args.x i row.n c.from.result _ _
    (is_pitch ((goal.at.returns-then-gap-from-clause-each c).After-from))
    (omega (arith, ints, first, c.if-gap-le0.false)) c.from.ensures c.if-gap-from.true within

few : (c : After-div_ceil) → c.div_ceil.result ≤ c.from.result
few c =
    few_before _ _ c.div_ceil.result c.from.result (omega (arith, ints, c.requires.row.step)) c.div_ceil.ensures
    c.if-gap-from.false

pub overflow_cast-result : goal.overflow_cast-result
overflow_cast-result c = let short = few c in omega (arith, short, c.from.ensures, c.requires.row.count.1)

pub returns-clause-each : goal.returns-clause-each
returns-clause-each c = λ i within.
    let row = c.args.self.now in
    let first = first_near row c.requires.row in
    left_by_division row.x row.step c.args.x i _ _ _ c.requires.row.step
    (omega (arith, ints, c.requires.row.step)) (omega (arith, ints, first, c.if-gap-le0.false))
    c.div_ceil.ensures

pub returns-clause-few : goal.returns-clause-few
returns-clause-few c =
    let short = few ((goal.at.returns-clause-few c).After-div_ceil) in
    omega (arith, short, c.from.ensures)

pub returns-then-gap-le0-clause-each : goal.returns-then-gap-le0-clause-each
returns-then-gap-le0-clause-each c = grind (arith, common_steps)

pub overflow_sub-gap : goal.overflow_sub-gap
overflow_sub-gap c = search rules

pub div_ceil-requires : goal.div_ceil-requires
div_ceil-requires c = grind (arith)

pub overflow_cast-step : goal.overflow_cast-step
overflow_cast-step c = grind (arith)
