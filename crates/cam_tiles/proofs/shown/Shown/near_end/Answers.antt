use Rattle.std.proofs.Common.{sym, subst}
use Rattle.cam_objects.specs.Cells.{drill_item_boxes, item_boxes}
use Rattle.cam_objects.specs.Drilling.{drill_item_leaves}
use Rattle.cam_objects.specs.Leaves.{item_leaves, meaning_in}
use Rattle.cam_tiles.specs.declared.shown.Shown.{Shown}
use Rattle.cam_tiles.specs.Machinery.Shown.{IsReady, leaves_by_item}
use Rattle.cam_tiles.proofs.ShownItems.{AreApart, apart_lists}
use Rattle.cam_tiles.proofs.shown.Shown.near_end.Goals as goal

pub returns-in-Gerber-clause-apart : goal.returns-in-Gerber-clause-apart
returns-in-Gerber-clause-apart c =
    let layer = c.in-Gerber.layer.now in
    let near = c.args.near in
    let first = c.near_end.result in
    let ready = subst IsReady c.in-Gerber.is c.requires in
    subst (λ (s : Shown). AreApart (leaves_by_item s) near first c.args.end) (sym c.in-Gerber.is)
    (apart_lists (item_leaves (meaning_in layer.apertures)) layer.items.items near first c.args.end
    (c.near_end.ensures.apart (item_boxes layer.apertures layer.items.items) ready.1))

pub returns-in-Drill-clause-apart : goal.returns-in-Drill-clause-apart
returns-in-Drill-clause-apart c =
    let layer = c.in-Drill.layer.now in
    let near = c.args.near in
    let first = c.near_end-in-Drill.result in
    let ready = subst IsReady c.in-Drill.is c.requires in
    subst (λ (s : Shown). AreApart (leaves_by_item s) near first c.args.end) (sym c.in-Drill.is)
    (apart_lists (drill_item_leaves layer.tools) layer.items.items near first c.args.end
    (c.near_end-in-Drill.ensures.apart (drill_item_boxes layer.tools layer.items.items) ready.1))
