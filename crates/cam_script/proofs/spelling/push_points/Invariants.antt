use Rattle.std.proofs.Common.{◌≡◌, ◌++◌, take}
use Rattle.std.specs.List.{flat_map}
use Rattle.cam_script.specs.Spelling.{point_words, spaced}
use Rattle.cam_script.proofs.spelling.push_points.Given as goal

abbrev pub invariant-loop-point : goal.invariant-loop-point
invariant-loop-point l = l.text.items ≡ l.fn.text.items ++ spaced (flat_map point_words (take l.point-index l.points))
