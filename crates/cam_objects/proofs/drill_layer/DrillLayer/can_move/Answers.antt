use Rattle.std.proofs.Common.{List, IsTrue, ◌↔◌, map, sym, subst}
use Rattle.std.specs.List.{All}
use Rattle.cam_units.specs.Board.{IsOnBoard}
use Rattle.cam_units.specs.declared.point.Point.{Point}
use Rattle.cam_shapes.specs.Shifting.{shifted_point}
use Rattle.cam_objects.specs.declared.drill_item.DrillItem.{DrillItem}
use Rattle.cam_objects.proofs.SoundItems.{meets_drill}
use Rattle.cam_objects.specs.DrillSoundness.{IsSoundDrillItem, drill_points_of}
use Rattle.cam_objects.specs.Shifting.{shifted_drill_item}
use Rattle.cam_objects.proofs.drill_layer.DrillLayer.can_move.Goals as goal

pub can_move_points-requires-clause-points : goal.can_move_points-requires-clause-points
can_move_points-requires-clause-points c = (meets_drill c.args.self.now.tools _ (subst (IsSoundDrillItem c.args.self.now.tools) c.in-Hit.is c.requires.item)).inside

pub can_move_points-requires-in-Rout-clause-points : goal.can_move_points-requires-in-Rout-clause-points
can_move_points-requires-in-Rout-clause-points c =
    subst (All IsOnBoard) (sym c.as_slice.ensures) (meets_drill c.args.self.now.tools _ (subst (IsSoundDrillItem c.args.self.now.tools) c.in-Rout.is c.requires.item)).inside

pub returns-in-Rout : goal.returns-in-Rout
returns-in-Rout c =
    subst (λ (item : DrillItem). IsTrue c.can_move_points-in-Rout.result ↔ All IsOnBoard (drill_points_of (shifted_drill_item c.args.by item)))
    (sym c.in-Rout.is)
    (subst (λ (points : List Point). IsTrue c.can_move_points-in-Rout.result ↔ All IsOnBoard (map (shifted_point c.args.by) points))
    c.as_slice.ensures c.can_move_points-in-Rout.ensures)
