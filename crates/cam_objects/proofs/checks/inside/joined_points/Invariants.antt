use Rattle.std.proofs.Common.{◌≡◌, take}
use Rattle.cam_objects.specs.Machinery.Inside.{box_behind}
use Rattle.cam_objects.proofs.checks.inside.joined_points.Given as goal

-- the box with the points so far
abbrev pub invariant-loop-point : goal.invariant-loop-point
invariant-loop-point l = l.all ≡ box_behind l.fn.bounds (take l.point-index l.points)
