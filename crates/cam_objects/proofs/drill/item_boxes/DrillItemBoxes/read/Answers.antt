use Rattle.std.proofs.Common.{◌<◌, length, Option, get_or, ap, sym, subst, ◌∙◌}
use Rattle.std.specs.Option.{IfSome}
use Rattle.std.proofs.lemmas.Option.{get_or_from_slice_get}
use Rattle.cam_units.specs.Board.{IsSize}
use Rattle.cam_units.specs.declared.length.Nm.{Nm}
use Rattle.cam_objects.specs.declared.drill_item.DrillItem.{DrillItem}
use Rattle.cam_objects.specs.declared.drill_layer.DrillLayer.{DrillLayer}
use Rattle.cam_objects.proofs.SoundItems.{meets_drill}
use Rattle.cam_objects.specs.Bounds.{bounds_of}
use Rattle.cam_objects.specs.Drilling.{diameter_of, drill_item_leaves, leaves_with}
use Rattle.cam_objects.specs.DrillSoundness.{IsSoundDrillItem}
use Rattle.cam_objects.proofs.SoundTools.{leaves_of_tool, tools_sized}
use Rattle.cam_objects.proofs.drill.item_boxes.DrillItemBoxes.read.Goals as goal

pub bounds_with-requires-clause-points : goal.bounds_with-requires-clause-points
bounds_with-requires-clause-points c =
    let layer = c.self.inside.layer.now in
    let within : c.args.place < length layer.items.items =
    subst (λ (l : DrillLayer). c.args.place < length l.items.items) (sym c.self.view_is) c.requires in
    let sound : IsSoundDrillItem layer.tools c.index-item.result.now =
    subst (IsSoundDrillItem layer.tools) (sym c.index-item.ensures)
    (c.self.invariant.0.items c.args.place c.index-item.result.now within) in
    (meets_drill layer.tools c.index-item.result.now sound).inside

pub bounds_with-requires-clause-diameter : goal.bounds_with-requires-clause-diameter
bounds_with-requires-clause-diameter c =
    subst (λ (o : Option Nm). IfSome o (λ d. IsSize d.0)) (sym c.diameter_in.ensures.value)
    (tools_sized c.self.inside.layer.now.tools c.tool.result c.self.invariant.0.tools)

pub returns-clause-value : goal.returns-clause-value
returns-clause-value c = λ item at.
    let layer = c.self.inside.layer.now in
    let shown = c.args.self.now in
    let x = c.index-item.result.now in
    c.bounds_with.ensures
    ∙ ap (λ (o : Option Nm). bounds_of (leaves_with o x))
    (c.diameter_in.ensures.value ∙ ap (diameter_of layer.tools) c.tool.ensures)
    ∙ ap bounds_of (leaves_of_tool layer.tools x)
    ∙ ap (λ (l : DrillLayer). bounds_of (drill_item_leaves l.tools x)) c.self.view_is
    ∙ ap (λ (y : DrillItem). bounds_of (drill_item_leaves shown.tools y))
    (c.index-item.ensures
    ∙ ap (λ (l : DrillLayer). get_or l.items.items c.args.place x) c.self.view_is
    ∙ get_or_from_slice_get shown.items.items c.args.place item x at)
