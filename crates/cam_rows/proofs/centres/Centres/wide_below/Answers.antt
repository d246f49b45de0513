use Rattle.std.proofs.Common.{◌≡◌, pos, to_z, of_z, w64, ap, arith, rules}
use Rattle.std.proofs.lemmas.Int.{ints}
use Rattle.cam_rows.proofs.RowsBelow.{few_steps}
use Rattle.cam_rows.proofs.centres.Centres.wide_below.Goals as goal

pub overflow_mul-row : goal.overflow_mul-row
overflow_mul-row c = grind (arith, few_steps, ints)

pub overflow_sub-row : goal.overflow_sub-row
overflow_sub-row c =
    let row = c.args.self.now in
    let first = (c.requires.top.centres 0 (omega (arith, c.requires.top.count))).y in
    let there = (c.requires.row.centres 0 (omega (arith, c.requires.top.count))).y in
    let few = few_steps row.y row.step c.args.steps c.requires.top.step first there in
    let steps_is : to_z w64 c.args.steps ≡ pos c.args.steps = omega (arith, ints, few) in
    let step_is : to_z w64 (of_z w64 row.step) ≡ row.step = search rules in
    rw (steps_is, step_is) (omega (arith, ints, first, there))

pub returns : goal.returns
returns c =
    let row = c.args.self.now in
    let first = (c.requires.top.centres 0 (omega (arith, c.requires.top.count))).y in
    let there = (c.requires.row.centres 0 (omega (arith, c.requires.top.count))).y in
    let few = few_steps row.y row.step c.args.steps c.requires.top.step first there in
    let steps_is : to_z w64 c.args.steps ≡ pos c.args.steps = omega (arith, ints, few) in
    let step_is : to_z w64 (of_z w64 row.step) ≡ row.step = search rules in
    ap (λ y. record row { y = y })
    (rw (steps_is, step_is) (omega (arith, ints, first, there)))

pub overflow_cast-row : goal.overflow_cast-row
overflow_cast-row c = grind (arith)
