use Rattle.std.proofs.Common.{sym, subst, arith}
use Rattle.cam_objects.specs.declared.drill_layer.DrillLayer.{DrillLayer}
use Rattle.cam_objects.specs.declared.layer.Layer.{Layer}
use Rattle.cam_objects.specs.Topmost.{PointsAt, drill_item_lists, item_lists}
use Rattle.cam_edits.specs.declared.board.SheetContent.{SheetContent}
use Rattle.cam_edits.specs.Asking.{sheet_lists}
use Rattle.cam_edits.specs.Sheets.{content_of}
use Rattle.cam_edits.proofs.board.SheetContent.item_at.Goals as goal

pub returns-in-Gerber : goal.returns-in-Gerber
returns-in-Gerber c =
    subst (λ (s : SheetContent). PointsAt (sheet_lists (content_of s)) c.args.at c.args.before c.item_at.result) (sym c.in-Gerber.is)
    (subst (λ (l : Layer). PointsAt (item_lists l.apertures l.items.items) c.args.at c.args.before c.item_at.result) c.layer.ensures
    c.item_at.ensures)

pub returns-in-Drill : goal.returns-in-Drill
returns-in-Drill c =
    let found = c.item_at-in-Drill in
    subst (λ (s : SheetContent). PointsAt (sheet_lists (content_of s)) c.args.at c.args.before found.result) (sym c.in-Drill.is)
    (subst (λ (l : DrillLayer). PointsAt (drill_item_lists l.tools l.items.items) c.args.at c.args.before found.result)
    c.layer-in-Drill.ensures found.ensures)

pub item_at-requires-clause-cells : goal.item_at-requires-clause-cells
item_at-requires-clause-cells c = grind (arith)

pub item_at-requires-clause-sound : goal.item_at-requires-clause-sound
item_at-requires-clause-sound c = grind (arith)

pub item_at-requires-in-Drill-clause-sound : goal.item_at-requires-in-Drill-clause-sound
item_at-requires-in-Drill-clause-sound c = grind (arith)

pub item_at-requires-in-Drill-clause-cells : goal.item_at-requires-in-Drill-clause-cells
item_at-requires-in-Drill-clause-cells c = grind (arith)
