use Rattle.std.proofs.Common.{arith}
use Rattle.cam_gerber.proofs.FlashesInside.{judged_inside, stamp_inside, stamp_weighs}
use Rattle.cam_gerber.proofs.running.Running.weight_inside.Goals as goal

pub returns-then-is_of_aperture-clause-inside : goal.returns-then-is_of_aperture-clause-inside
returns-then-is_of_aperture-clause-inside c = λ past t. grind (arith, judged_inside, stamp_inside)

pub returns-then-is_of_aperture-clause-weight : goal.returns-then-is_of_aperture-clause-weight
returns-then-is_of_aperture-clause-weight c = grind (arith, stamp_weighs)
