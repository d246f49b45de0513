use Rattle.std.proofs.Common.{◌≡◌, take}
use Rattle.cam_macros.specs.declared.primitive.PrimShape.TheVariants.{Outline}
use Rattle.cam_apertures.specs.Primitives.{primitive_box}
use Rattle.cam_apertures.specs.Machinery.Boxes.{IsSmallBox}
use Rattle.cam_apertures.proofs.boxes.box_of_points.Given as goal

abbrev pub invariant-loop-point : goal.invariant-loop-point
invariant-loop-point l = record {
  box : l.bounds ≡ primitive_box (Outline (take l.point-index l.points));
  small : IsSmallBox l.bounds;
}
