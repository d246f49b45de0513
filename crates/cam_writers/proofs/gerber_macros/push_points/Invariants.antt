use Rattle.std.proofs.Common.{◌≡◌, ◌++◌, take}
use Rattle.std.specs.List.{flat_map}
use Rattle.cam_writers.specs.Phrases.{point_fields}
use Rattle.cam_writers.specs.Machinery.Tracking.{fields_text}
use Rattle.cam_writers.proofs.gerber_macros.push_points.Given as goal

abbrev pub invariant-loop-point : goal.invariant-loop-point
invariant-loop-point l =
    l.text.items ≡ l.fn.text.items ++ fields_text (flat_map point_fields (take l.point-index l.points))
