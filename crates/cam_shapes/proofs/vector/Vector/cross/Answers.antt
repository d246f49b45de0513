use Rattle.std.proofs.Common.{rules, ◌≡◌, ◌*ℤ◌}
use Rattle.cam_shapes.specs.Plane.{cross}
use Rattle.cam_shapes.proofs.Widths.{kept_product, cross_bound, fits, kept, wide}
use Rattle.cam_shapes.proofs.vector.Vector.cross.Goals as goal
use Rattle.cam_shapes.proofs.vector.Vector.cross.Goals.{After-from-4}

first : (c : After-from-4) → wide (wide c.from.result *ℤ wide c.from-2.result) ≡ c.args.self.x *ℤ c.args.other.y
first c = search (rules, kept_product)

second : (c : After-from-4) → wide (wide c.from-3.result *ℤ wide c.from-4.result) ≡ c.args.self.y *ℤ c.args.other.x
second c =
    kept_product c.args.self.y c.args.other.x c.from-3.result c.from-4.result c.requires.first.y c.requires.second.x
    c.from-3.ensures c.from-4.ensures

pub overflow_sub-result : goal.overflow_sub-result
overflow_sub-result c =
    let bound = cross_bound c.args.self c.args.other c.requires.first c.requires.second in
    rw (first c, second c) (fits (cross c.args.self c.args.other) bound)

pub returns-clause-value : goal.returns-clause-value
returns-clause-value c =
    let bound = cross_bound c.args.self c.args.other c.requires.first c.requires.second in
    rw (first c, second c) (kept (cross c.args.self c.args.other) bound)

pub returns-clause-bound : goal.returns-clause-bound
returns-clause-bound c =
    let bound = cross_bound c.args.self c.args.other c.requires.first c.requires.second in
    rw (first c, second c, kept (cross c.args.self c.args.other) bound) bound

pub overflow_mul-result : goal.overflow_mul-result
overflow_mul-result c = search rules

pub overflow_mul-result-2 : goal.overflow_mul-result-2
overflow_mul-result-2 c = search rules
