use Rattle.std.proofs.Common.{◌≡◌, ◌++◌, map, take, drop}
use Rattle.cam_shapes.specs.Shifting.{shifted_point}
use Rattle.cam_objects.proofs.points.shift_points.Given as goal

abbrev pub invariant-loop-point : goal.invariant-loop-point
invariant-loop-point l =
    l.point-items ≡ map (shifted_point l.by) (take l.point-index l.fn.points) ++ drop l.point-index l.fn.points
