use Rattle.std.proofs.Common.{ap, ◌∙◌}
use Rattle.cam_macros.specs.declared.primitive.MacroPrimitive.{MacroPrimitive}
use Rattle.cam_apertures.specs.Primitives.{primitive_box}
use Rattle.cam_apertures.proofs.Corners.{one_more, small_joined}
use Rattle.cam_apertures.proofs.boxes.box_of_prims.Goals as goal

pub loop-prim-preserved : goal.loop-prim-preserved
loop-prim-preserved c = record {
  box = one_more (λ p. primitive_box p.shape) c.args.prims.now c.loop-prim.prim-index c.prim-item.result c.loop-prim.bounds
      c.primitive_box.result c.joined-bounds.result c.loop-prim-test.true c.loop-prim.invariant.box
      (c.primitive_box.ensures.value ∙ ap (λ (p : MacroPrimitive). primitive_box p.shape) c.prim-item.is) c.joined-bounds.ensures.value;
  small = small_joined c.loop-prim.bounds c.primitive_box.result c.joined-bounds.result c.joined-bounds.ensures.value
      c.loop-prim.invariant.small c.primitive_box.ensures.small;
}
