use Rattle.cam_shapes.specs.Plane.{dot, square}
use Rattle.cam_shapes.proofs.Widths.{passed_at_most, short_square}
use Rattle.cam_shapes.proofs.vector.Vector.is_within.Goals as goal

pub returns : goal.returns
returns c =
    passed_at_most c.dot.result c.squared.result (dot c.args.self c.args.self) (square c.args.radius.0)
    c.dot.ensures.bound (short_square c.squared.result c.squared.ensures.bound) c.dot.ensures.value
    c.squared.ensures.value
