use Rattle.std.proofs.Common.{rules, ◌≡◌, ◌*ℤ◌}
use Rattle.cam_shapes.specs.Plane.{dot}
use Rattle.cam_shapes.proofs.Widths.{kept_product, dot_bound, fits, kept, wide}
use Rattle.cam_shapes.proofs.vector.Vector.dot.Goals as goal
use Rattle.cam_shapes.proofs.vector.Vector.dot.Goals.{After-from-4}

first : (c : After-from-4) → wide (wide c.from.result *ℤ wide c.from-2.result) ≡ c.args.self.x *ℤ c.args.other.x
first c = search (rules, kept_product)

second : (c : After-from-4) → wide (wide c.from-3.result *ℤ wide c.from-4.result) ≡ c.args.self.y *ℤ c.args.other.y
second c =
    kept_product c.args.self.y c.args.other.y c.from-3.result c.from-4.result c.requires.first.y c.requires.second.y
    c.from-3.ensures c.from-4.ensures

pub overflow_add-result : goal.overflow_add-result
overflow_add-result c =
    let bound = dot_bound c.args.self c.args.other c.requires.first c.requires.second in
    rw (first c, second c) (fits (dot c.args.self c.args.other) bound)

pub returns-clause-value : goal.returns-clause-value
returns-clause-value c =
    let bound = dot_bound c.args.self c.args.other c.requires.first c.requires.second in
    rw (first c, second c) (kept (dot c.args.self c.args.other) bound)

pub returns-clause-bound : goal.returns-clause-bound
returns-clause-bound c =
    let bound = dot_bound c.args.self c.args.other c.requires.first c.requires.second in
    rw (first c, second c, kept (dot c.args.self c.args.other) bound) bound

pub overflow_mul-result : goal.overflow_mul-result
overflow_mul-result c = search rules

pub overflow_mul-result-2 : goal.overflow_mul-result-2
overflow_mul-result-2 c = search rules
