use Rattle.std.proofs.Common.{◌≡◌, length, Some, sym, ap, subst, ◌∙◌, arith}
use Rattle.std.specs.Prelude.{slice_get}
use Rattle.cam_objects.specs.declared.drill_item.DrillItem.{DrillItem}
use Rattle.cam_objects.specs.declared.drill_layer.DrillLayer.{DrillLayer}
use Rattle.cam_objects.specs.declared.item.Item.{Item}
use Rattle.cam_objects.specs.declared.layer.Layer.{Layer}
use Rattle.cam_objects.specs.Bounds.{bounds_of}
use Rattle.cam_objects.specs.Cells.{drill_item_boxes, item_boxes}
use Rattle.cam_objects.specs.Drilling.{drill_item_leaves}
use Rattle.cam_objects.specs.Leaves.{item_leaves, meaning_in}
use Rattle.cam_edits.specs.declared.board.SheetContent.{SheetContent}
use Rattle.cam_edits.specs.Asking.{sheet_boxes}
use Rattle.cam_edits.specs.Sheets.{content_of, item_count}
use Rattle.cam_edits.proofs.AskedSheets.{box_there}
use Rattle.cam_edits.proofs.board.SheetContent.item_bounds.Goals as goal

pub returns-in-Gerber : goal.returns-in-Gerber
returns-in-Gerber c =
    let layer = c.layer.result.now in
    let box = c.item_bounds.result in
    let count : c.item_count.result ≡ length layer.items.items =
    c.item_count.ensures
    ∙ ap (λ (s : SheetContent). item_count (content_of s)) c.in-Gerber.is
    ∙ ap (λ (l : Layer). length l.items.items) (sym c.layer.ensures) in
    subst (λ (s : SheetContent). Some box ≡ slice_get (sheet_boxes (content_of s)) c.args.k) (sym c.in-Gerber.is)
    (subst (λ (l : Layer). Some box ≡ slice_get (item_boxes l.apertures l.items.items) c.args.k) c.layer.ensures
    (box_there (λ (item : Item). bounds_of (item_leaves (meaning_in layer.apertures) item)) layer.items.items c.args.k box
    (omega arith) c.item_bounds.ensures))

pub returns-in-Drill : goal.returns-in-Drill
returns-in-Drill c =
    let layer = c.layer-in-Drill.result.now in
    let box = c.item_bounds-in-Drill.result in
    let count : c.item_count.result ≡ length layer.items.items =
    c.item_count.ensures
    ∙ ap (λ (s : SheetContent). item_count (content_of s)) c.in-Drill.is
    ∙ ap (λ (l : DrillLayer). length l.items.items) (sym c.layer-in-Drill.ensures) in
    subst (λ (s : SheetContent). Some box ≡ slice_get (sheet_boxes (content_of s)) c.args.k) (sym c.in-Drill.is)
    (subst (λ (l : DrillLayer). Some box ≡ slice_get (drill_item_boxes l.tools l.items.items) c.args.k) c.layer-in-Drill.ensures
    (box_there (λ (item : DrillItem). bounds_of (drill_item_leaves layer.tools item)) layer.items.items c.args.k box
    (omega arith) c.item_bounds-in-Drill.ensures))

pub item_bounds-requires-clause-sound : goal.item_bounds-requires-clause-sound
item_bounds-requires-clause-sound c = grind (arith)

pub item_bounds-requires-in-Drill-clause-sound : goal.item_bounds-requires-in-Drill-clause-sound
item_bounds-requires-in-Drill-clause-sound c = grind (arith)
