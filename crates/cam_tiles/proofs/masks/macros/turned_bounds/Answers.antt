use Rattle.std.proofs.Common.{◌≡◌, ap, map, sym, subst, ◌∙◌}
use Rattle.std.proofs.lemmas.List.{take_all}
use Rattle.std.proofs.lemmas.List.Folds.{fold-map}
use Rattle.cam_units.specs.declared.bounds.Bounds.{Bounds}
use Rattle.cam_units.specs.declared.bounds.Bounds.TheVariants.{Empty}
use Rattle.cam_units.specs.Boxes.{Holds, join_of}
use Rattle.cam_macros.specs.declared.primitive.PrimShape.TheVariants.{Outline}
use Rattle.cam_apertures.specs.Primitives.{IsMacroPoint, box_of_point, primitive_box}
use Rattle.cam_apertures.specs.Turned.{turned_point}
use Rattle.cam_apertures.proofs.Corners.{one_more}
use Rattle.cam_apertures.proofs.Outlines.{near_turned, outline_places}
use Rattle.cam_apertures.proofs.ShapeBoxes.{outline_box}
use Rattle.cam_tiles.proofs.masks.macros.turned_bounds.Goals as goal

pub point_bounds-requires : goal.point_bounds-requires
point_bounds-requires c =
    subst IsMacroPoint (sym c.apply.ensures.value)
    (near_turned c.args.turn _ (c.requires.points.near c.loop-point.point-index _ c.loop-point-test.true))

pub loop-point-preserved : goal.loop-point-preserved
loop-point-preserved c =
    let here = c.loop-point in
    one_more (λ p. box_of_point (turned_point c.args.turn p)) c.args.points.now here.point-index _ here.bounds
    c.point_bounds.result c.joined-bounds.result c.loop-point-test.true here.invariant
    (c.point_bounds.ensures ∙ ap box_of_point c.apply.ensures.value) c.joined-bounds.ensures.value

pub returns : goal.returns
returns c = λ s inside.
    let t = c.args.turn in
    let points = c.args.points.now in
    let all = take_all c.loop-point.point-index points c.loop-point-test.false in
    let box : c.loop-point.bounds ≡ primitive_box (Outline (map (turned_point t) points)) =
    rw all at c.loop-point.invariant
    ∙ sym (fold-map (λ box p. join_of box (box_of_point p)) (turned_point t) Empty points) in
    subst (λ (b : Bounds). Holds b s) (sym box)
    (outline_box (map (turned_point t) points) s
    (subst (λ (T : Type 0). T) (outline_places t (Outline points) points points s (λ i. Outline points) (λ i. points)) inside))
