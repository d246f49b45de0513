use Rattle.std.proofs.Common.{◌∙◌, List, refl, slice_set, subst, ap, length, arith}
use Rattle.std.proofs.lemmas.List.{take_all}
use Rattle.cam_units.specs.declared.bounds.Bounds.{Bounds}
use Rattle.cam_objects.specs.Cells.{AreCellsOf, box_at}
use Rattle.cam_objects.proofs.KeptBoxes.{none_read, one_read}
use Rattle.cam_objects.proofs.cells.kept.ItemCells.read_again.Goals as goal

pub renew-requires : goal.renew-requires
renew-requires g c = omega (arith, ap length c.loop-place.invariant.list)

pub loop-place-init : goal.loop-place-init
loop-place-init g c = record { list = refl; cells = none_read c.args.self.now }

pub loop-place-preserved : goal.loop-place-preserved
loop-place-preserved g c =
    let place = c.loop-place.place in
    let new = c.renew.new.self in
    let list = c.loop-place.invariant.list in
    record {
      list = c.renew.ensures.list ∙ list;
      cells = one_read (g.B.BoxedItems.boxes c.args.items.now) place c.loop-place.self new
          (omega arith) c.loop-place.invariant.cells
          (λ before known there.
          subst (λ (those : List Bounds). AreCellsOf (slice_set before place (box_at those place)) new) list
          (c.renew.ensures.one before known there));
    }

pub returns-clause-cells : goal.returns-clause-cells
returns-clause-cells g c = grind (arith, take_all)
