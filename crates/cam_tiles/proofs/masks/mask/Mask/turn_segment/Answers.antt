use Rattle.std.proofs.Common.{arith}
use Rattle.cam_shapes.specs.declared.cap.Cap.{Cap}
use Rattle.cam_shapes.specs.Cap.{is_in_cap}
use Rattle.cam_shapes.specs.Edge.{crosses_ray, edge}
use Rattle.cam_objects.specs.Image.{relative}
use Rattle.cam_objects.specs.Leaves.{origin}
use Rattle.cam_tiles.proofs.TurnedMasks.{turns_twice}
use Rattle.cam_tiles.proofs.masks.mask.Mask.turn_segment.Goals as goal

pub returns-in-Curve : goal.returns-in-Curve
returns-in-Curve c =
    let cap : Cap =
    record { from = c.args.here; to = c.in-Curve.to; centre = c.in-Curve.centre; ccw = c.in-Curve.ccw } in
    rw c.in-Curve.is (turns_twice (λ s. crosses_ray (relative origin.offset s) (edge c.args.here c.in-Curve.to))
    (λ s. is_in_cap (relative origin.offset s) cap) c.args.self.now c.turn_edge-in-Curve.new.self c.turn.new.self
    c.turn_edge-in-Curve.ensures c.turn.ensures)

pub returns-in-Line : goal.returns-in-Line
returns-in-Line c = grind (arith)
