use Rattle.std.proofs.Common.{Option, ap, sym, subst, ◌∙◌}
use Rattle.std.specs.Option.{IfSome}
use Rattle.cam_units.specs.Board.{IsSize}
use Rattle.cam_units.specs.declared.length.Nm.{Nm}
use Rattle.cam_objects.proofs.SoundItems.{meets_drill}
use Rattle.cam_objects.specs.Bounds.{bounds_of}
use Rattle.cam_objects.specs.Drilling.{diameter_of, leaves_with}
use Rattle.cam_objects.proofs.SoundTools.{leaves_of_tool, tools_sized}
use Rattle.cam_objects.proofs.drill_layer.DrillLayer.bounds_of.Goals as goal

pub bounds_with-requires-clause-points : goal.bounds_with-requires-clause-points
bounds_with-requires-clause-points c = (meets_drill c.args.self.now.tools c.args.item.now c.requires.item).inside

pub bounds_with-requires-clause-diameter : goal.bounds_with-requires-clause-diameter
bounds_with-requires-clause-diameter c =
    subst (λ (o : Option Nm). IfSome o (λ d. IsSize d.0)) (sym c.get.ensures)
    (tools_sized c.args.self.now.tools c.tool.result c.requires.sound.tools)

pub returns : goal.returns
returns c =
    let tools = c.args.self.now.tools in
    let item = c.args.item.now in
    c.bounds_with.ensures
    ∙ ap (λ (o : Option Nm). bounds_of (leaves_with o item)) (c.get.ensures ∙ ap (diameter_of tools) c.tool.ensures)
    ∙ ap bounds_of (leaves_of_tool tools item)
