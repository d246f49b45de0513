use Rattle.std.proofs.Common.{◌*ℤ◌, pos, ℕ, List, ap, reverse, sym, subst, ◌∙◌, arith}
use Rattle.std.proofs.lemmas.List.{take_all}
use Rattle.std.specs.Option.{IfSome}
use Rattle.cam_units.specs.declared.point.Point.{Point}
use Rattle.cam_objects.specs.Bounds.{box_of_shape, moved}
use Rattle.cam_objects.specs.Canvases.{Paints}
use Rattle.cam_objects.specs.Leaves.{Leaf, Meaning, block_leaves, meaning_in, shifted}
use Rattle.cam_objects.specs.Machinery.Painting.{IsReadyToPrint, meaning_before}
use Rattle.cam_objects.specs.Machinery.ObjectCells.{AreObjectCells}
use Rattle.cam_objects.specs.declared.entry.Entry.{Entry}
use Rattle.cam_objects.specs.declared.placing.place.Place.{Place}
use Rattle.cam_objects.proofs.Canvases.{paints_boxed}
use Rattle.cam_objects.proofs.CopyBoxes.{copy_box}
use Rattle.cam_objects.proofs.Painting.{meaning_whole, paintable_whole}
use Rattle.cam_objects.proofs.PlacedShapes.{shapes_so}
use Rattle.cam_objects.proofs.paint.repeat.Repeat.paint_copy.Goals as goal

pub moved-requires-clause-by : goal.moved-requires-clause-by
moved-requires-clause-by g c = record { x = omega (arith, c.offset-by.ensures.x); y = omega (arith, c.offset-by.ensures.y) }

pub moved-requires-clause-bounds : goal.moved-requires-clause-bounds
moved-requires-clause-bounds g c = c.requires.repeat.near

pub returns-then-is_done_in : goal.returns-then-is_done_in
returns-then-is_done_in g c =
    let canvas = g.C.Canvas in
    let a = c.args in
    let r = a.self.now in
    let by = c.offset-by.result in
    let copy : Point → List Leaf = λ by. block_leaves (meaning_in r.entries.now) (shifted by.x by.y) r.objects.now in
    let box = c.moved.ensures ∙ ap (moved by) c.requires.repeat.first
    ∙ sym (copy_box box_of_shape shapes_so (reverse r.entries.now) r.objects.now by.x by.y) in
    subst (λ (by : Point). Paints canvas.has canvas.place canvas.ink a.canvas.now (copy by) a.canvas.now)
    {y = record { x = pos a.column *ℤ r.copies.i; y = pos a.row *ℤ r.copies.j }} c.offset-by.ensures.value
    (paints_boxed canvas.has canvas.place canvas.ink a.canvas.now (copy by) c.moved.result box
    (c.is_done_in.ensures.0 c.if-is_done_in.true))

pub paint_block-requires-clause-objects : goal.paint_block-requires-clause-objects
paint_block-requires-clause-objects g c = c.requires.repeat.across.points

pub paint_block-requires-clause-cells : goal.paint_block-requires-clause-cells
paint_block-requires-clause-cells g c =
    let r = c.args.self.now in
    subst (λ (es : List (ℕ × Entry)). IfSome r.cells (λ kept. AreObjectCells es r.objects.now kept.now))
    (sym (take_all c.len.result r.entries.now (omega (arith, c.len.ensures.value)))) c.requires.repeat.cells

pub paint_block-requires-clause-ready : goal.paint_block-requires-clause-ready
paint_block-requires-clause-ready g c =
    let r = c.args.self.now in
    let by = c.offset-by.result in
    let copy : Point → List Leaf = λ by. block_leaves (meaning_in r.entries.now) (shifted by.x by.y) r.objects.now in
    paintable_whole r.entries.now c.len.result by.x by.y c.shifted-place.result
    (λ means p. block_leaves means p r.objects.now) c.len.ensures.value c.shifted-place.ensures
    c.offset-by.ensures.x c.offset-by.ensures.y
    (subst (λ (by : Point). IsReadyToPrint r.entries.now (copy by)) (sym c.offset-by.ensures.value) c.requires.ready)

pub returns : goal.returns
returns g c =
    let canvas = g.C.Canvas in
    let a = c.args in
    let r = a.self.now in
    let by = c.offset-by.result in
    let copy : Point → List Leaf = λ by. block_leaves (meaning_in r.entries.now) (shifted by.x by.y) r.objects.now in
    subst (λ (by : Point). Paints canvas.has canvas.place canvas.ink a.canvas.now (copy by) c.paint_block.new.canvas)
    {y = record { x = pos a.column *ℤ r.copies.i; y = pos a.row *ℤ r.copies.j }} c.offset-by.ensures.value
    (subst (λ (means : ℕ → Meaning). Paints canvas.has canvas.place canvas.ink a.canvas.now
    (block_leaves means (shifted by.x by.y) r.objects.now) c.paint_block.new.canvas)
    (meaning_whole r.entries.now c.len.result c.len.ensures.value)
    (subst (λ (p : Place). Paints canvas.has canvas.place canvas.ink a.canvas.now
    (block_leaves (meaning_before c.len.result r.entries.now) p r.objects.now) c.paint_block.new.canvas)
    c.shifted-place.ensures c.paint_block.ensures))
