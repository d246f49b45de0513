use Rattle.std.proofs.Common.{◌≡◌, take}
use Rattle.cam_objects.specs.Bounds.{bounds_of, box_of_all}
use Rattle.cam_objects.specs.Leaves.{meaning_in, object_leaves, origin}
use Rattle.cam_objects.specs.Machinery.Extents.{IsExtentIn}
use Rattle.cam_objects.proofs.boxes.items.block_bounds.Given as goal

-- the box of what the objects so far paint
abbrev pub invariant-loop-object : goal.invariant-loop-object
invariant-loop-object l = record {
  extent : IsExtentIn l.entries l.extent;
  box : l.all ≡ box_of_all (λ o. bounds_of (object_leaves (meaning_in l.entries) origin o)) (take l.object-index l.objects);
}
