use Rattle.std.proofs.Common.{◌∙◌, ◌+◌, List, slice_set, subst, arith}
use Rattle.std.proofs.lemmas.List.{length-map}
use Rattle.cam_units.specs.declared.bounds.Bounds.{Bounds}
use Rattle.cam_objects.specs.Cells.{AreCellsOf, box_at}
use Rattle.cam_edits.proofs.ItemTools.{renewed_all, renewed_here, renewed_past}
use Rattle.cam_edits.proofs.drill_mending.renew_tool.Goals as goal

pub renew-requires : goal.renew-requires
renew-requires c = grind (arith, length-map)

pub loop-place-preserved : goal.loop-place-preserved
loop-place-preserved c =
    let layer = c.args.layer.now in
    let t = c.args.t in
    let place = c.loop-place.place in
    let was = c.loop-place.invariant in
    let new = c.renew.new.self in
    let next = c.next_of_tool-place-in-loop-place in
    record {
      boxes = c.renew.ensures.list ∙ was.boxes;
      renewed = renewed_past t layer new (place + 1)
          (renewed_here t layer c.loop-place.cells place was.renewed new
          (omega (arith, c.loop-place-test.true, c.len-count.ensures, layer.items.ok.0))
          (λ before known there.
          subst (λ (those : List Bounds). AreCellsOf (slice_set before place (box_at those place)) new) was.boxes
          (c.renew.ensures.one before known there)))
          next.result next.ensures.others;
    }

pub returns : goal.returns
returns c =
    renewed_all c.args.t c.args.layer.now c.loop-place.cells c.loop-place.place c.loop-place.invariant.renewed
    (omega (arith, c.loop-place-test.false, c.len-count.ensures, c.args.layer.now.items.ok.0))

pub loop-place-init : goal.loop-place-init
loop-place-init c = grind (arith)

pub next_of_tool-place-requires-in-loop-place-clause-known : goal.next_of_tool-place-requires-in-loop-place-clause-known
next_of_tool-place-requires-in-loop-place-clause-known c = grind (arith)
