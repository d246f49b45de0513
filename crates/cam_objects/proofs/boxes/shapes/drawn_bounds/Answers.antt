use Rattle.std.proofs.Common.{arith}
use Rattle.cam_objects.proofs.SizedLeaves.{near_point, size_reach}
use Rattle.cam_objects.proofs.boxes.shapes.drawn_bounds.Goals as goal

pub widened-first-requires : goal.widened-first-requires
widened-first-requires c = grind (arith, near_point, size_reach)

pub widened-last-requires : goal.widened-last-requires
widened-last-requires c = grind (arith, near_point, size_reach)

pub returns-in-Rectangular : goal.returns-in-Rectangular
returns-in-Rectangular c = grind arith
