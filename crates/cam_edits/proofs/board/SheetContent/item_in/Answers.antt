use Rattle.std.proofs.Common.{sym, subst, arith}
use Rattle.cam_objects.specs.declared.drill_layer.DrillLayer.{DrillLayer}
use Rattle.cam_objects.specs.declared.layer.Layer.{Layer}
use Rattle.cam_objects.specs.Cells.{drill_item_boxes, item_boxes}
use Rattle.cam_objects.specs.Enclosed.{FindsEnclosed}
use Rattle.cam_edits.specs.declared.board.SheetContent.{SheetContent}
use Rattle.cam_edits.specs.Asking.{sheet_boxes}
use Rattle.cam_edits.specs.Sheets.{content_of}
use Rattle.cam_edits.proofs.board.SheetContent.item_in.Goals as goal

pub returns-in-Gerber : goal.returns-in-Gerber
returns-in-Gerber c =
    subst (λ (s : SheetContent). FindsEnclosed (sheet_boxes (content_of s)) c.args.outer c.args.from c.item_in.result) (sym c.in-Gerber.is)
    (subst (λ (l : Layer). FindsEnclosed (item_boxes l.apertures l.items.items) c.args.outer c.args.from c.item_in.result)
    c.layer.ensures c.item_in.ensures)

pub returns-in-Drill : goal.returns-in-Drill
returns-in-Drill c =
    let found = c.item_in-in-Drill in
    subst (λ (s : SheetContent). FindsEnclosed (sheet_boxes (content_of s)) c.args.outer c.args.from found.result) (sym c.in-Drill.is)
    (subst (λ (l : DrillLayer). FindsEnclosed (drill_item_boxes l.tools l.items.items) c.args.outer c.args.from found.result)
    c.layer-in-Drill.ensures found.ensures)

pub item_in-requires : goal.item_in-requires
item_in-requires c = grind (arith)
