use Rattle.std.proofs.Common.{map, sym, subst, arith}
use Rattle.cam_objects.specs.declared.layer.Layer.{Layer}
use Rattle.cam_objects.specs.Enclosed.{FindsEnclosed}
use Rattle.cam_objects.specs.Leaves.{meaning_in}
use Rattle.cam_edits.specs.declared.board.SheetContent.{SheetContent}
use Rattle.cam_edits.specs.Asking.{sheet_boxes}
use Rattle.cam_edits.specs.Sheets.{content_of}
use Rattle.cam_ask.specs.Painted.{painted_box, painted_boxes}
use Rattle.cam_ask.proofs.telling.next_in.Goals as goal

pub returns-in-Gerber : goal.returns-in-Gerber
returns-in-Gerber c =
    subst (λ (s : SheetContent). FindsEnclosed (painted_boxes (content_of s)) c.args.outer c.args.from c.next_enclosed.result)
    (sym c.in-Gerber.is)
    (subst (λ (l : Layer). FindsEnclosed (map (painted_box (meaning_in l.apertures)) l.items.items) c.args.outer c.args.from
    c.next_enclosed.result) c.layer.ensures c.next_enclosed.ensures)

pub returns-in-Drill : goal.returns-in-Drill
returns-in-Drill c =
    subst (λ (s : SheetContent). FindsEnclosed (painted_boxes (content_of s)) c.args.outer c.args.from c.item_in.result) (sym c.in-Drill.is)
    (subst (λ (s : SheetContent). FindsEnclosed (sheet_boxes (content_of s)) c.args.outer c.args.from c.item_in.result) c.in-Drill.is
    c.item_in.ensures)

pub next_enclosed-requires : goal.next_enclosed-requires
next_enclosed-requires c = grind (arith)
