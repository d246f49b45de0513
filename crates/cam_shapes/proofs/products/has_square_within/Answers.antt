use Rattle.std.proofs.Common.{arith}
use Rattle.std.specs.Int.{w128}
use Rattle.std.proofs.lemmas.Int.{fits_signed_from_abs}
use Rattle.cam_shapes.specs.Plane.{square}
use Rattle.cam_shapes.proofs.Widths.{at_most_is, kept_wide, long_root, short_root}
use Rattle.cam_shapes.proofs.products.has_square_within.Goals as goal

pub returns-else-unsigned_abs-lt-LONG_ROOT : goal.returns-else-unsigned_abs-lt-LONG_ROOT
returns-else-unsigned_abs-lt-LONG_ROOT c = grind (arith, long_root)

pub returns-then-unsigned_abs-lt-LONG_ROOT : goal.returns-then-unsigned_abs-lt-LONG_ROOT
returns-then-unsigned_abs-lt-LONG_ROOT c = grind (arith, short_root, kept_wide, at_most_is)

pub overflow_mul-result : goal.overflow_mul-result
overflow_mul-result c =
    let root = short_root c.args.root c.unsigned_abs.result c.ranges.root c.unsigned_abs.ensures.value
    c.if-unsigned_abs-lt-LONG_ROOT.true in
    rw root.0 (fits_signed_from_abs w128 (square c.args.root) (omega (arith, root.1)))
