use Rattle.std.proofs.Common.{◌≡◌, List, ◌∷◌, sym, subst, arith}
use Rattle.std.proofs.lemmas.Grind.{common_steps}
use Rattle.std.specs.List.{All, flat_map}
use Rattle.std.proofs.lemmas.List.Elements.{All-head, All-tail}
use Rattle.cam_units.specs.Board.{IsOnBoard}
use Rattle.cam_units.specs.declared.point.Point.{Point}
use Rattle.cam_shapes.specs.declared.segments.Seg.{Seg}
use Rattle.cam_objects.specs.Soundness.{points_of_seg}
use Rattle.cam_objects.proofs.StandingPoints.{all_flat_map}
use Rattle.cam_objects.proofs.checks.inside.contour_box.Goals as goal

pub point_bounds-all-requires : goal.point_bounds-all-requires
point_bounds-all-requires c = All-head IsOnBoard c.args.contour.now.start (flat_map points_of_seg c.args.contour.now.segs) c.requires

-- the points of each segment lie on the board
on_board : (start : Point) (segs items : List Seg) → All IsOnBoard (start ∷ flat_map points_of_seg segs) → items ≡ segs
    → All (λ s. All IsOnBoard (points_of_seg s)) items
on_board start segs items board same =
    subst (λ (ss : List Seg). All (λ s. All IsOnBoard (points_of_seg s)) ss) (sym same)
    ((all_flat_map IsOnBoard points_of_seg segs).1 (All-tail IsOnBoard start (flat_map points_of_seg segs) board))

pub joined_points-all-requires : goal.joined_points-all-requires
joined_points-all-requires c =
    let k = c.args.contour.now in
    subst (λ s. All IsOnBoard (points_of_seg s)) c.in-Line.is
    (on_board k.start k.segs _ c.requires c.as_slice-seg-items.ensures c.loop-seg.seg-index _ (omega arith))

pub joined_points-all-requires-in-Curve : goal.joined_points-all-requires-in-Curve
joined_points-all-requires-in-Curve c =
    let k = c.args.contour.now in
    subst (λ s. All IsOnBoard (points_of_seg s)) c.in-Curve.is
    (on_board k.start k.segs _ c.requires c.as_slice-seg-items.ensures c.loop-seg.seg-index _ (omega arith))

pub loop-seg-preserved : goal.loop-seg-preserved
loop-seg-preserved c = grind (arith, common_steps)
