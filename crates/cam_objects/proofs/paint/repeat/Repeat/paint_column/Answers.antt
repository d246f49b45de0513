use Rattle.std.proofs.Common.{◌-◌, ◌<◌, arith}
use Rattle.cam_objects.specs.Machinery.Repeats.{leaves_of_copy}
use Rattle.cam_objects.proofs.PaintedLists.{paints_copy}
use Rattle.cam_objects.proofs.PaintedRuns.{paints_end, paints_start}
use Rattle.cam_objects.proofs.Painting.{ready_copy}
use Rattle.cam_objects.proofs.paint.repeat.Repeat.paint_column.Goals as goal

pub loop-row-init : goal.loop-row-init
loop-row-init g c =
    let canvas = g.C.Canvas in
    let a = c.args in
    paints_end canvas.has canvas.place canvas.ink a.canvas.now (leaves_of_copy a.self.now a.column) a.rows.end
    a.self.now.copies.rows c.requires.within.end
    (λ row from below. c.requires.unseen row below (λ h. omega (arith, h.below)))

pub paint_copy-requires-clause-ready : goal.paint_copy-requires-clause-ready
paint_copy-requires-clause-ready g c =
    let r = c.args.self.now in
    let row = c.loop-row.row - 1 in
    let below : row < r.copies.rows = omega (arith, c.requires.within.end) in
    ready_copy r.entries.now (leaves_of_copy r c.args.column) r.copies.rows row below c.requires.ready

pub loop-row-preserved : goal.loop-row-preserved
loop-row-preserved g c =
    let canvas = g.C.Canvas in
    let r = c.args.self.now in
    paints_copy canvas.has canvas.place canvas.ink _ _ _ (leaves_of_copy r c.args.column) r.copies.rows (c.loop-row.row - 1)
    c.loop-row.row (omega arith) (omega (arith, c.requires.within.end)) c.loop-row.invariant c.paint_copy.ensures

pub returns : goal.returns
returns g c =
    let canvas = g.C.Canvas in
    let a = c.args in
    paints_start canvas.has canvas.place canvas.ink a.canvas.now c.loop-row.canvas (leaves_of_copy a.self.now a.column) c.loop-row.row
    a.self.now.copies.rows (omega (arith, c.requires.within.end)) c.loop-row.invariant
    (λ row below. c.requires.unseen row (omega (arith, c.requires.within.first)) (λ h. omega (arith, h.from)))
