use Rattle.std.proofs.Common.{◌≡◌, ◌+◌, ◌+ℤ◌, refl, ap, sym, subst, ◌∙◌, pos, arith, of_z, to_z, w64}
use Rattle.std.specs.Int.RustNames.{unsigned_abs}
use Rattle.std.proofs.lemmas.Int.{ints}
use Rattle.cam_shapes.specs.Plane.{dot, way}
use Rattle.cam_objects.specs.Bounds.{root, widened}
use Rattle.cam_objects.specs.Machinery.Boxes.{IsNearBox}
use Rattle.cam_objects.proofs.Roots.{is_root}
use Rattle.cam_objects.proofs.SizedLeaves.{near_point, root_below}
use Rattle.cam_objects.proofs.boxes.shapes.circle_square.Goals as goal

pub widened-requires-clause-across : goal.widened-requires-clause-across
widened-requires-clause-across c =
    let few = root_below c.squared_length.result c.isqrt-radius.result c.isqrt-radius.ensures.square c.squared_length.ensures.short in
    record { some = omega (arith, ints, few); few = omega (arith, ints, few) }

pub widened-requires-clause-up : goal.widened-requires-clause-up
widened-requires-clause-up c =
    let few = root_below c.squared_length.result c.isqrt-radius.result c.isqrt-radius.ensures.square c.squared_length.ensures.short in
    record { some = omega (arith, ints, few); few = omega (arith, ints, few) }

pub returns : goal.returns
returns c =
    let few = root_below c.squared_length.result c.isqrt-radius.result c.isqrt-radius.ensures.square c.squared_length.ensures.short in
    let r : root (unsigned_abs (dot (way c.args.centre.now c.args.from.now) (way c.args.centre.now c.args.from.now)))
    ≡ c.isqrt-radius.result
    =
    ap root (sym c.squared_length.ensures.value)
    ∙ is_root c.squared_length.result c.isqrt-radius.result c.isqrt-radius.ensures.square c.isqrt-radius.ensures.greatest in
    let half : to_z w64 (of_z w64 (to_z w64 c.isqrt-radius.result +ℤ pos 1)) ≡ pos (c.isqrt-radius.result + 1) = omega (arith, ints, few) in
    c.widened.ensures.even refl
    ∙ (λ i. widened ((half ∙ ap (λ n. pos (n + 1)) (sym r)) i) (c.point_bounds.ensures i))

pub overflow_add-half : goal.overflow_add-half
overflow_add-half c = grind (arith, root_below, ints)

pub overflow_cast-half : goal.overflow_cast-half
overflow_cast-half c = grind (arith, root_below)

pub widened-requires-clause-bounds : goal.widened-requires-clause-bounds
widened-requires-clause-bounds c = subst IsNearBox (sym c.point_bounds.ensures) (near_point c.args.centre.now c.requires.centre)
