use Rattle.std.proofs.Common.{◌≡◌, ◌*ℤ◌, arith, rules}
use Rattle.cam_units.specs.Board.{IsInReach}
use Rattle.cam_units.specs.declared.point.Spot.{Spot}
use Rattle.cam_shapes.specs.declared.vector.Vector.{Vector}
use Rattle.cam_shapes.specs.Plane.{IsShort}
use Rattle.cam_shapes.proofs.Widths.{cross_bound, fits, kept, kept_product, wide}
use Rattle.cam_objects.specs.Machinery.Lines.{crossed}
use Rattle.cam_objects.proofs.boxes.lines.cross.Goals as goal
use Rattle.cam_objects.proofs.boxes.lines.cross.Goals.{After-from-4}

abbrev vector : Spot → Vector
vector s = record { x = s.x; y = s.y }

short : (s : Spot) → IsInReach s → IsShort (vector s)
short s near = record { x = omega (arith, near.x); y = omega (arith, near.y) }

first : (c : After-from-4) → wide (wide c.from.result *ℤ wide c.from-2.result) ≡ c.args.way.x *ℤ c.args.seen.y
first c =
    kept_product c.args.way.x c.args.seen.y c.from.result c.from-2.result (short c.args.way c.requires.way).x
    (short c.args.seen c.requires.seen).y c.from.ensures c.from-2.ensures

second : (c : After-from-4) → wide (wide c.from-3.result *ℤ wide c.from-4.result) ≡ c.args.way.y *ℤ c.args.seen.x
second c =
    kept_product c.args.way.y c.args.seen.x c.from-3.result c.from-4.result (short c.args.way c.requires.way).y
    (short c.args.seen c.requires.seen).x c.from-3.ensures c.from-4.ensures

pub overflow_sub-result : goal.overflow_sub-result
overflow_sub-result c =
    let bound = cross_bound (vector c.args.way) (vector c.args.seen) (short c.args.way c.requires.way)
    (short c.args.seen c.requires.seen) in
    rw (first c, second c) (fits (crossed c.args.way c.args.seen) bound)

pub returns-clause-value : goal.returns-clause-value
returns-clause-value c =
    let bound = cross_bound (vector c.args.way) (vector c.args.seen) (short c.args.way c.requires.way)
    (short c.args.seen c.requires.seen) in
    rw (first c, second c) (kept (crossed c.args.way c.args.seen) bound)

pub returns-clause-short : goal.returns-clause-short
returns-clause-short c =
    let bound = cross_bound (vector c.args.way) (vector c.args.seen) (short c.args.way c.requires.way)
    (short c.args.seen c.requires.seen) in
    rw (first c, second c, kept (crossed c.args.way c.args.seen) bound) bound

pub overflow_mul-result-2 : goal.overflow_mul-result-2
overflow_mul-result-2 c = search rules

pub overflow_mul-result : goal.overflow_mul-result
overflow_mul-result c = search rules
