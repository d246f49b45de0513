use Rattle.std.proofs.Common.{ℕ, ◌-◌, ◌^◌, ◌<◌, ℤ, pos, ◌+ℤ◌, ◌-ℤ◌, ◌*ℤ◌, refl, sym, ◌∙◌, arith, rules}
use Rattle.std.proofs.lemmas.Grind.{common_steps}
use Rattle.std.proofs.lemmas.Bool.{true≢false}
use Rattle.cam_shapes.proofs.Crossings.{less_is}
use Rattle.cam_shapes.proofs.Widths.{at_most_is}
use Rattle.cam_rows.specs.declared.slope.Crossing.{Crossing}
use Rattle.cam_rows.specs.declared.slope.Steps.{Steps}
use Rattle.cam_rows.specs.Machinery.Slopes.{whole}
use Rattle.cam_rows.proofs.LevelSteps.{change_fits, last_is, least_is, steps_fit, sum_fits}
use Rattle.cam_rows.proofs.slope.Crossing.stays.Goals as goal

-- what is left so many rows lower
abbrev after : Crossing → Steps → ℕ → ℤ
after c t k = c.rest +ℤ pos k *ℤ whole t.columns t.divisor t.rest

pub overflow_add-change : goal.overflow_add-change
overflow_add-change c =
    change_fits c.args.self c.args.steps.now (c.args.rows - 1) c.requires.steps c.requires.here (omega (arith, c.requires.few))
    _ _ _ _ c.from.ensures c.from-2.ensures c.from-3.ensures refl

pub overflow_mul-last : goal.overflow_mul-last
overflow_mul-last c =
    steps_fit c.args.self c.args.steps.now (c.args.rows - 1) c.requires.steps c.requires.here (omega (arith, c.requires.few))
    _ _ _ _ c.from.ensures c.from-2.ensures c.from-3.ensures refl

pub overflow_add-last : goal.overflow_add-last
overflow_add-last c = grind (arith, sum_fits)

pub returns-then-from-last : goal.returns-then-from-last
returns-then-from-last c =
    let t = c.args.steps.now in
    let few : c.args.rows - 1 < 2 ^ 20 = omega (arith, c.requires.few) in
    let last = last_is c.args.self t (c.args.rows - 1) c.requires.steps c.requires.here few _ _ _ _ c.from.ensures
    c.from-2.ensures c.from-3.ensures c.from-4.ensures in
    let least = least_is c.args.self t (c.args.rows - 1) c.requires.steps c.requires.here few _ c.from-5.ensures in
    let from = rw (least, last) at c.if-from-last.true in
    let test = less_is (after c.args.self t (c.args.rows - 1)) (pos 0) in
    rw last ((λ on. ((at_most_is _ _).0 from, test.0 on)), (λ rest. test.1 rest.1))

pub returns-else-from-last : goal.returns-else-from-last
returns-else-from-last c =
    let t = c.args.steps.now in
    let few : c.args.rows - 1 < 2 ^ 20 = omega (arith, c.requires.few) in
    let last = last_is c.args.self t (c.args.rows - 1) c.requires.steps c.requires.here few _ _ _ _ c.from.ensures
    c.from-2.ensures c.from-3.ensures c.from-4.ensures in
    let least = least_is c.args.self t (c.args.rows - 1) c.requires.steps c.requires.here few _ c.from-5.ensures in
    let off = rw (least, last) at c.if-from-last.false in
    let test = at_most_is (pos 0 -ℤ t.divisor) (after c.args.self t (c.args.rows - 1)) in
    rw (least, last) ((λ on. absurd (true≢false (sym on ∙ off))), (λ rest. test.1 rest.0))

pub overflow_mul-change : goal.overflow_mul-change
overflow_mul-change c = search rules

pub overflow_sub-from : goal.overflow_sub-from
overflow_sub-from c = grind (arith, common_steps)
