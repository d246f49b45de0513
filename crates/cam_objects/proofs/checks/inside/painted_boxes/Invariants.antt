use Rattle.std.proofs.Common.{◌≡◌, take}
use Rattle.cam_objects.specs.Bounds.{box_of_all}
use Rattle.cam_objects.specs.Leaves.{meaning_in, object_leaves, origin}
use Rattle.cam_objects.specs.Machinery.Facts.{points_bounds_of}
use Rattle.cam_objects.proofs.checks.inside.painted_boxes.Given as goal

-- the box of what the objects so far paint
abbrev pub invariant-loop-object : goal.invariant-loop-object
invariant-loop-object l =
    l.all ≡ box_of_all (λ o. points_bounds_of (object_leaves (meaning_in l.entries) origin o)) (take l.object-index l.objects)
