use Rattle.std.proofs.Common.{◌≡◌, ◌∷◌, take}
use Rattle.std.specs.List.{flat_map}
use Rattle.cam_units.specs.declared.bounds.Bounds.TheVariants.{Empty}
use Rattle.cam_objects.specs.Machinery.Inside.{box_behind}
use Rattle.cam_objects.specs.Soundness.{points_of_seg}
use Rattle.cam_objects.proofs.checks.inside.contour_box.Given as goal

-- the box of the start and of the segments so far
abbrev pub invariant-loop-seg : goal.invariant-loop-seg
invariant-loop-seg l = l.all ≡ box_behind Empty (l.fn.contour.start ∷ flat_map points_of_seg (take l.seg-index l.fn.contour.segs))
