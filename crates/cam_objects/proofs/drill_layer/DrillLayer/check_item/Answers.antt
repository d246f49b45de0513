use Rattle.std.proofs.Common.{Bool, List, [], ◌∷◌, ap, sym, ◌∙◌}
use Rattle.std.specs.Option.{is_some}
use Rattle.cam_refusals.specs.Checks.{answer_of, first_holding}
use Rattle.cam_units.specs.declared.point.Point.{Point}
use Rattle.cam_objects.specs.declared.drill_item.DrillItem.{DrillItem}
use Rattle.cam_objects.specs.Drilling.{diameter_of}
use Rattle.cam_objects.specs.DrillSoundness.{drill_item_checks, drilling_checks}
use Rattle.cam_objects.proofs.drill_layer.DrillLayer.check_item.Goals as goal

pub returns-in-Hit : goal.returns-in-Hit
unfolding drill_item_checks
returns-in-Hit c =
    c.check_drilling.ensures
    ∙ ap (λ (known : Bool). answer_of (first_holding (drilling_checks known (c.in-Hit.at ∷ [])))) (c.is_some.ensures ∙ ap is_some c.get.ensures)
    ∙ ap (λ (item : DrillItem). answer_of (first_holding (drill_item_checks c.args.self.now.tools item))) (sym c.in-Hit.is)

pub returns-in-Rout : goal.returns-in-Rout
unfolding drill_item_checks
returns-in-Rout c =
    c.check_drilling-in-Rout.ensures
    ∙ ap (λ (known : Bool). answer_of (first_holding (drilling_checks known c.as_slice.result.now)))
    (c.is_some-in-Rout.ensures ∙ ap is_some c.get-in-Rout.ensures)
    ∙ ap (λ (points : List Point). answer_of (first_holding (drilling_checks (is_some (diameter_of c.args.self.now.tools c.in-Rout.tool)) points)))
    c.as_slice.ensures
    ∙ ap (λ (item : DrillItem). answer_of (first_holding (drill_item_checks c.args.self.now.tools item))) (sym c.in-Rout.is)
