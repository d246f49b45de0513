use Rattle.std.proofs.Common.{List, ap, sym, subst, ◌∙◌, arith}
use Rattle.std.specs.List.{All}
use Rattle.cam_units.specs.Board.{IsOnBoard}
use Rattle.cam_units.specs.declared.point.Point.{Point}
use Rattle.cam_objects.specs.declared.drill_item.DrillItem.{DrillItem}
use Rattle.cam_objects.proofs.SoundItems.{meets_drill}
use Rattle.cam_objects.specs.Bounds.{bounds_of}
use Rattle.cam_objects.specs.Drilling.{diameter_of, drill_item_leaves, leaves_with}
use Rattle.cam_objects.specs.DrillSoundness.{drill_points_of}
use Rattle.cam_objects.proofs.Canvases.{paints_boxed}
use Rattle.cam_objects.proofs.MovedBounds.{tool_leaves}
use Rattle.cam_objects.proofs.SoundTools.{tool_size}
use Rattle.cam_objects.proofs.drill.painting.paint_item.Goals as goal

pub bounds-bounds-requires-clause-points : goal.bounds-bounds-requires-clause-points
bounds-bounds-requires-clause-points g c = (meets_drill c.args.tools.now c.args.item.now c.requires.item).inside

pub bounds-bounds-requires-clause-diameter : goal.bounds-bounds-requires-clause-diameter
bounds-bounds-requires-clause-diameter g c =
    tool_size c.args.tools.now c.tool.result c.in-Some.diameter c.requires.tools (sym c.in-Some.ensures)

pub returns-then-misses : goal.returns-then-misses
returns-then-misses g c =
    let canvas = g.C.Canvas in
    let tools = c.args.tools.now in
    let item = c.args.item.now in
    let diameter = c.in-Some.ensures ∙ ap (diameter_of tools) c.tool.ensures in
    paints_boxed canvas.has canvas.place canvas.ink c.args.canvas.now (drill_item_leaves tools item) c.bounds-bounds.result
    (c.bounds-bounds.ensures ∙ ap (λ d. bounds_of (leaves_with d item)) diameter ∙ sym (ap bounds_of (tool_leaves tools item)))
    (c.misses.ensures c.if-misses.true)

pub returns-then-is_decided_in : goal.returns-then-is_decided_in
returns-then-is_decided_in g c =
    let canvas = g.C.Canvas in
    let tools = c.args.tools.now in
    let item = c.args.item.now in
    let diameter = c.in-Some.ensures ∙ ap (diameter_of tools) c.tool.ensures in
    paints_boxed canvas.has canvas.place canvas.ink c.args.canvas.now (drill_item_leaves tools item) c.bounds-bounds.result
    (c.bounds-bounds.ensures ∙ ap (λ d. bounds_of (leaves_with d item)) diameter ∙ sym (ap bounds_of (tool_leaves tools item)))
    (c.is_decided_in.ensures.0 c.if-is_decided_in.true)

pub paint_hole-requires : goal.paint_hole-requires
paint_hole-requires g c = record {
  centre = subst (λ (item : DrillItem). All IsOnBoard (drill_points_of item)) c.in-Hit.is (meets_drill c.args.tools.now c.args.item.now c.requires.item).inside
      0 c.in-Hit.at (omega arith);
  diameter = tool_size c.args.tools.now c.tool.result c.in-Some.diameter c.requires.tools (sym c.in-Some.ensures);
}

pub paint_rout-requires-clause-points : goal.paint_rout-requires-clause-points
paint_rout-requires-clause-points g c =
    subst (λ (ps : List Point). All IsOnBoard ps) (sym c.as_slice.ensures)
    (subst (λ (item : DrillItem). All IsOnBoard (drill_points_of item)) c.in-Rout.is (meets_drill c.args.tools.now c.args.item.now c.requires.item).inside)

pub paint_rout-requires-clause-diameter : goal.paint_rout-requires-clause-diameter
paint_rout-requires-clause-diameter g c =
    tool_size c.args.tools.now c.tool.result c.in-Some.diameter c.requires.tools (sym c.in-Some.ensures)

pub returns-else-is_decided_in : goal.returns-else-is_decided_in
returns-else-is_decided_in c = grind (arith)

pub returns-in_default : goal.returns-in_default
returns-in_default c = grind (arith)

pub returns-in-Hit : goal.returns-in-Hit
returns-in-Hit c = grind (arith)
