use Rattle.std.proofs.Common.{◌≡◌, take}
use Rattle.cam_apertures.specs.Primitives.{box_of_prims}
use Rattle.cam_apertures.specs.Machinery.Boxes.{IsSmallBox}
use Rattle.cam_apertures.proofs.boxes.box_of_prims.Given as goal

abbrev pub invariant-loop-prim : goal.invariant-loop-prim
invariant-loop-prim l = record {
  box : l.bounds ≡ box_of_prims (take l.prim-index l.prims);
  small : IsSmallBox l.bounds;
}
