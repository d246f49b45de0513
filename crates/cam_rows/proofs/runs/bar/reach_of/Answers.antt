use Rattle.std.proofs.Common.{◌≡◌, ◌<◌, ◌^◌, ◌*◌, pos, ◌*ℤ◌, ◌<ℤ◌, to_z, of_z, ap, ◌∙◌, arith}
use Rattle.std.proofs.lemmas.Grind.{common_steps}
use Rattle.std.specs.Int.{w128}
use Rattle.std.proofs.lemmas.Int.{ints}
use Rattle.cam_shapes.specs.Plane.{dot, square, way}
use Rattle.cam_rows.proofs.BesideWays.{inside_by_root, reach_bound}
use Rattle.cam_rows.proofs.Circling.{square_of}
use Rattle.cam_rows.proofs.runs.bar.reach_of.Goals as goal
use Rattle.cam_rows.proofs.runs.bar.reach_of.Goals.{After-from}

short : (c : After-from) → c.from.result * c.squared_distance-squared_length.result < 2 ^ 123
short c =
    rw c.from.ensures (reach_bound _ c.squared_distance-squared_length.result (omega (arith, ints, c.requires.width))
    c.squared_distance-squared_length.ensures.bound)

pub overflow_mul-from : goal.overflow_mul-from
overflow_mul-from c = let bound = short c in omega arith

pub returns-clause-each : goal.returns-clause-each
returns-clause-each c = λ z.
    let a = way c.args.bar.now.from c.args.bar.now.to in
    let w = c.args.bar.now.width.0 in
    let length = c.squared_distance-squared_length.result in
    let squared_width : pos c.from.result ≡ square w =
    ap pos c.from.ensures ∙ square_of _ w (omega (arith, ints, c.requires.width)) in
    let squared : pos (c.from.result * length) ≡ square w *ℤ dot a a =
    ap (λ z. z *ℤ pos length) squared_width
    ∙ ap (λ z. square w *ℤ z) c.squared_distance-squared_length.ensures.value in
    let wide : pos 0 <ℤ w = omega (arith, ints, c.requires.width, c.if-width-eq0.false) in
    let long : pos 0 <ℤ dot a a =
    rw (← c.squared_distance-squared_length.ensures.value) (omega (arith, ints, c.if-squared_length-eq0.false)) in
    let kept : to_z w128 (of_z w128 c.from-2.result) ≡ pos c.isqrt.result = omega (arith, ints) in
    rw kept (inside_by_root z w (dot a a) c.isqrt.result (c.from.result * length) wide long squared
    c.isqrt.ensures.square c.isqrt.ensures.greatest)

pub overflow_cast-width : goal.overflow_cast-width
overflow_cast-width c = grind (arith, common_steps)

pub returns-clause-bound : goal.returns-clause-bound
returns-clause-bound c = grind (arith, common_steps)

pub returns-then-width-eq0-clause-each : goal.returns-then-width-eq0-clause-each
returns-then-width-eq0-clause-each c = grind (arith, common_steps)

pub overflow_mul-width : goal.overflow_mul-width
overflow_mul-width c = grind (arith, common_steps)
