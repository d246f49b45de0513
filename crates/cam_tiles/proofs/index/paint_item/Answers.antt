use Rattle.std.proofs.Common.{List, [], ◌∷◌, FitsSigned, w64, refl, sym, subst, rules, arith}
use Rattle.std.proofs.lemmas.Int.{to_z-of_z}
use Rattle.cam_units.specs.Boxes.{Holds}
use Rattle.cam_objects.specs.Bounds.{bounds_of}
use Rattle.cam_objects.specs.Leaves.{Filled, Leaf, leaf}
use Rattle.cam_objects.proofs.CoveredBoxes.{inside_box}
use Rattle.cam_tiles.proofs.index.paint_item.Goals as goal

pub paint_contour-requires-clause-sides : goal.paint_contour-requires-clause-sides
paint_contour-requires-clause-sides c = λ s on.
    let item = c.args.item.now in
    let left : FitsSigned w64 item.low.x = search rules in
    let right : FitsSigned w64 item.high.x = search rules in
    let region = leaf (Filled c.in-Some.contour.contour.now) c.in-Some.dark in
    let held = inside_box (region ∷ []) s (0, region, omega arith, refl, on) in
    let corners = c.requires.item.corners s
    (subst (λ (leaves : List Leaf). Holds (bounds_of leaves) s) (sym c.in-Some.ensures.leaves) held) in
    simp to_z-of_z (corners.left, corners.right)
