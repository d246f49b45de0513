use Rattle.std.proofs.Common.{◌≡◌, ◌*ℤ◌, arith}
use Rattle.std.proofs.lemmas.Grind.{common_steps}
use Rattle.cam_shapes.specs.Plane.{square}
use Rattle.cam_shapes.proofs.Widths.{kept, kept_factors, short_size, size_square, wide}
use Rattle.cam_shapes.proofs.size.squared.Goals as goal
use Rattle.cam_shapes.proofs.size.squared.Goals.{After-from-2}

product : (c : After-from-2) → wide c.from.result *ℤ wide c.from-2.result ≡ square c.args.size.0
product c = grind (arith, short_size, kept_factors)

pub returns-clause-bound : goal.returns-clause-bound
returns-clause-bound c = grind (arith, size_square, product, kept)

pub returns-clause-value : goal.returns-clause-value
returns-clause-value c =
    let bound = size_square c.args.size.0 c.requires in
    rw (product c) (kept (square c.args.size.0) (omega arith))

pub overflow_mul-result : goal.overflow_mul-result
overflow_mul-result c = grind (arith, common_steps)
