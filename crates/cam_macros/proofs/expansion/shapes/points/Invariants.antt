use Rattle.std.proofs.Common.{◌≡◌, length, ◌++◌}
use Rattle.cam_macros.specs.Machinery.Values.{numbers}
use Rattle.cam_macros.specs.Expansion.{outline_points, ◌>>=◌}
use Rattle.std.specs.Prelude.{Ok}
use Rattle.cam_macros.proofs.expansion.shapes.points.Given as goal

abbrev pub decreases-loop-rest : goal.decreases-loop-rest
decreases-loop-rest l = length l.rest

abbrev pub invariant-loop-rest : goal.invariant-loop-rest
invariant-loop-rest l =
    (outline_points l.unit l.turn (numbers l.rest) >>= λ more. Ok (l.points.items ++ more))
    ≡ outline_points l.unit l.turn (numbers l.fields)
