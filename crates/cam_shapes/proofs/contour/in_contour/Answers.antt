use Rattle.std.proofs.Common.{arith}
use Rattle.cam_shapes.specs.Placing.{placed_contour}
use Rattle.cam_shapes.proofs.Parity.{sides_are_parity}
use Rattle.cam_shapes.proofs.Places.{offset_short}
use Rattle.cam_shapes.proofs.contour.in_contour.Goals as goal

pub point-requires-clause-offset : goal.point-requires-clause-offset
point-requires-clause-offset c = grind (arith, offset_short)

pub is_enclosed-requires-clause-offset : goal.is_enclosed-requires-clause-offset
is_enclosed-requires-clause-offset c = grind (arith, offset_short)

pub returns : goal.returns
returns c =
    sides_are_parity c.args.spot (placed_contour c.args.turn c.args.offset c.args.contour.now) c.is_enclosed.result
    (rw (c.point.ensures, c.as_slice.ensures) at c.is_enclosed.ensures)

pub is_enclosed-requires-clause-segs : goal.is_enclosed-requires-clause-segs
is_enclosed-requires-clause-segs c = grind (arith)
