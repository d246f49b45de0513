use Rattle.std.proofs.Common.{◌≡◌, ◌++◌, map, take, drop}
use Rattle.cam_objects.specs.Shifting.{shifted_object}
use Rattle.cam_objects.proofs.object.shift_objects.Given as goal

abbrev pub invariant-loop-object : goal.invariant-loop-object
invariant-loop-object l =
    l.object-items ≡ map (shifted_object l.by) (take l.object-index l.fn.objects) ++ drop l.object-index l.fn.objects
