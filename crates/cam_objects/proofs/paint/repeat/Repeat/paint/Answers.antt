use Rattle.std.proofs.Common.{◌-◌, ◌<◌, pos, ◌*ℤ◌, arith}
use Rattle.cam_objects.specs.Machinery.Repeats.{leaves_of_column, leaves_of_copy, leaves_of_repeat}
use Rattle.cam_objects.proofs.Canvases.{paints_boxed}
use Rattle.cam_objects.proofs.ItemBounds.{bounded_repeat, first_on_board}
use Rattle.cam_objects.specs.Leaves.{meaning_in}
use Rattle.cam_objects.proofs.PaintedLists.{paints_copy}
use Rattle.cam_objects.proofs.PaintedRuns.{column_unseen, paints_end, paints_start, pieces_unseen, row_unseen, still_unseen}
use Rattle.cam_objects.proofs.Painting.{ready_copy}
use Rattle.cam_objects.proofs.paint.repeat.Repeat.paint.Goals as goal

pub returns-then-rows : goal.returns-then-rows
returns-then-rows g c =
    let canvas = g.C.Canvas in
    let v = c.args.canvas.now in
    let r = c.args.self.now in
    paints_end canvas.has canvas.place canvas.ink v (leaves_of_column r) 0 r.copies.columns (omega arith)
    (λ k from here.
    pieces_unseen canvas.has canvas.place v (leaves_of_copy r k) 0 r.copies.rows (λ row from below.
    row_unseen canvas.has canvas.place v r.entries.now r.copies r.objects.now r.first c.bounds-whole.result
    c.requires.repeat.first c.bounds-whole.ensures c.rows_over-rows.result k row
    (c.rows_over-rows.ensures.each row (pos k *ℤ r.copies.i) (omega arith)) (λ h. omega (arith, c.if-rows.true, h.from, h.below))))

pub returns-then-is_done_in : goal.returns-then-is_done_in
returns-then-is_done_in g c =
    let canvas = g.C.Canvas in
    let r = c.args.self.now in
    let p = r.copies in
    let some = c.requires.repeat.some in
    let board = first_on_board (meaning_in r.entries.now) p.columns p.rows p.i p.j r.objects.now some c.requires.ready.board in
    let box = bounded_repeat r.entries.now c.requires.ready.sound r.objects.now board p.columns p.rows p.i p.j r.first c.bounds.result
    some c.requires.repeat.first c.bounds.ensures in
    paints_boxed canvas.has canvas.place canvas.ink c.args.canvas.now (leaves_of_repeat r) c.bounds.result box
    (c.is_done_in.ensures.0 c.if-is_done_in.true)

pub loop-column-init : goal.loop-column-init
loop-column-init g c =
    let canvas = g.C.Canvas in
    let v = c.args.canvas.now in
    let r = c.args.self.now in
    paints_end canvas.has canvas.place canvas.ink v (leaves_of_column r)
    c.columns_over-columns.result.end r.copies.columns c.columns_over-columns.ensures.within.end (λ k from here.
    column_unseen canvas.has canvas.place v r.entries.now r.copies r.objects.now r.first
    c.bounds-whole.result c.requires.repeat.first c.bounds-whole.ensures
    c.columns_over-columns.result k
    (λ dy. c.columns_over-columns.ensures.each k dy here) (λ h. omega (arith, h.below)))

pub paint_column-requires-clause-ready : goal.paint_column-requires-clause-ready
paint_column-requires-clause-ready g c =
    let r = c.args.self.now in
    let k = c.loop-column.column - 1 in
    let below : k < r.copies.columns = omega (arith, c.columns_over-columns.ensures.within.end) in
    ready_copy r.entries.now (leaves_of_column r) r.copies.columns k below c.requires.ready

pub paint_column-requires-clause-unseen : goal.paint_column-requires-clause-unseen
paint_column-requires-clause-unseen g c = λ row below off.
    let canvas = g.C.Canvas in
    let v = c.args.canvas.now in
    let r = c.args.self.now in
    let k = c.loop-column.column - 1 in
    still_unseen canvas.has canvas.place canvas.ink v c.loop-column.canvas _ (leaves_of_copy r k row) c.loop-column.invariant
    (row_unseen canvas.has canvas.place v r.entries.now r.copies r.objects.now r.first
    c.bounds-whole.result c.requires.repeat.first c.bounds-whole.ensures c.rows_over-rows.result k row
    (c.rows_over-rows.ensures.each row (pos k *ℤ r.copies.i) below) off)

pub loop-column-preserved : goal.loop-column-preserved
loop-column-preserved g c =
    let canvas = g.C.Canvas in
    let r = c.args.self.now in
    paints_copy canvas.has canvas.place canvas.ink _ _ _ (leaves_of_column r) r.copies.columns (c.loop-column.column - 1)
    c.loop-column.column (omega arith) (omega (arith, c.columns_over-columns.ensures.within.end)) c.loop-column.invariant
    c.paint_column.ensures

pub returns : goal.returns
returns g c =
    let canvas = g.C.Canvas in
    let v = c.args.canvas.now in
    let r = c.args.self.now in
    let within = c.columns_over-columns.ensures.within in
    paints_start canvas.has canvas.place canvas.ink v c.loop-column.canvas (leaves_of_column r) c.loop-column.column r.copies.columns
    (omega (arith, within.end)) c.loop-column.invariant
    (λ k here.
    column_unseen canvas.has canvas.place v r.entries.now r.copies r.objects.now r.first
    c.bounds-whole.result c.requires.repeat.first c.bounds-whole.ensures c.columns_over-columns.result k
    (λ dy. c.columns_over-columns.ensures.each k dy (omega (arith, within.first))) (λ h. omega (arith, h.from)))
