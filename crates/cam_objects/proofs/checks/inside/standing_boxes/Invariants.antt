use Rattle.std.proofs.Common.{◌≡◌, take}
use Rattle.cam_apertures.specs.Primitives.{box_of_point}
use Rattle.cam_objects.specs.Bounds.{box_of_all}
use Rattle.cam_objects.specs.Soundness.{points_of}
use Rattle.cam_objects.proofs.checks.inside.standing_boxes.Given as goal

-- the box of the objects so far
abbrev pub invariant-loop-object : goal.invariant-loop-object
invariant-loop-object l = l.all ≡ box_of_all (λ o. box_of_all box_of_point (points_of o)) (take l.object-index l.objects)
