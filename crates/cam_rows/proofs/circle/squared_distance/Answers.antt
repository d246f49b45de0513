use Rattle.std.proofs.Common.{arith}
use Rattle.std.proofs.lemmas.Int.{ints}
use Rattle.cam_shapes.specs.Plane.{way}
use Rattle.cam_shapes.proofs.Strokes.{dot_is}
use Rattle.cam_rows.proofs.circle.squared_distance.Goals as goal

pub overflow_cast-result : goal.overflow_cast-result
overflow_cast-result c = omega (arith, ints, c.dot.ensures.value, c.dot.ensures.bound, dot_is c.between-way.result)

pub returns-clause-bound : goal.returns-clause-bound
returns-clause-bound c = omega (arith, ints, c.dot.ensures.value, c.dot.ensures.bound, dot_is c.between-way.result)

pub returns-clause-value : goal.returns-clause-value
returns-clause-value c =
    let value = rw c.between-way.ensures.value at c.dot.ensures.value in
    omega (arith, ints, value, c.dot.ensures.bound, dot_is (way c.args.from.now c.args.to.now))
