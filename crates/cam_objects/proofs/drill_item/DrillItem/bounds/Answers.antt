use Rattle.std.proofs.Common.{List, Some, refl, ap, sym, subst, ◌∙◌}
use Rattle.std.specs.List.{All}
use Rattle.cam_units.specs.Board.{IsOnBoard}
use Rattle.cam_units.specs.declared.point.Point.{Point}
use Rattle.cam_objects.specs.declared.drill_item.DrillItem.{DrillItem}
use Rattle.cam_objects.specs.Bounds.{bounds_of, widened}
use Rattle.cam_objects.specs.Drilling.{leaves_with}
use Rattle.cam_objects.specs.DrillSoundness.{drill_points_of}
use Rattle.cam_units.specs.declared.bounds.Bounds.TheVariants.{Empty}
use Rattle.cam_objects.specs.Machinery.Boxes.{IsNearBox}
use Rattle.cam_objects.specs.Machinery.Inside.{box_behind}
use Rattle.cam_objects.proofs.DrillBoxes.{points_near, rout_box}
use Rattle.cam_objects.proofs.drill_item.DrillItem.bounds.Goals as goal

pub joined_points-points-requires : goal.joined_points-points-requires
joined_points-points-requires c =
    subst (λ (ps : List Point). All IsOnBoard ps) (sym c.as_slice.ensures)
    (subst (λ (item : DrillItem). All IsOnBoard (drill_points_of item)) c.in-Rout.is c.requires.points)

pub widened-requires-clause-bounds : goal.widened-requires-clause-bounds
widened-requires-clause-bounds c =
    let board = subst (λ (item : DrillItem). All IsOnBoard (drill_points_of item)) c.in-Rout.is c.requires.points in
    subst IsNearBox (sym (c.joined_points-points.ensures))
    (subst (λ (ps : List Point). IsNearBox (box_behind Empty ps)) (sym c.as_slice.ensures) (points_near c.in-Rout.points board))

pub returns-in-Rout : goal.returns-in-Rout
returns-in-Rout c =
    let board = subst (λ (item : DrillItem). All IsOnBoard (drill_points_of item)) c.in-Rout.is c.requires.points in
    let d = c.args.diameter in
    c.widened.ensures.even refl
    ∙ ap (widened d.0) (c.joined_points-points.ensures ∙ ap (λ (ps : List Point). box_behind Empty ps) c.as_slice.ensures)
    ∙ rout_box d c.in-Rout.points c.requires.diameter board
    ∙ ap (λ (item : DrillItem). bounds_of (leaves_with (Some d) item)) (sym c.in-Rout.is)
