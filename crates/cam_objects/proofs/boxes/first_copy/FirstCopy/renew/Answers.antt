use Rattle.std.proofs.Common.{◌∙◌, ℕ, List, sym, ap, subst, arith}
use Rattle.std.proofs.lemmas.Option.{get_or_from_slice_get}
use Rattle.cam_objects.specs.declared.entry.Entry.{Entry}
use Rattle.cam_objects.specs.declared.item.Item.{Item}
use Rattle.cam_objects.specs.declared.item.Item.TheVariants.{Repeat}
use Rattle.cam_objects.specs.declared.object.Object.{Object}
use Rattle.cam_objects.specs.Cells.{AreCellsOf, FirstCopied, IsFirstCopyOf, object_boxes}
use Rattle.cam_objects.proofs.ObjectCells.{listed_measurable}
use Rattle.cam_objects.proofs.boxes.first_copy.FirstCopy.renew.Goals as goal

pub block_bounds-bounds-requires : goal.block_bounds-bounds-requires
block_bounds-bounds-requires c =
    let m = listed_measurable c.args.layer.now c.args.place c.index.result.now _ _ _ _ c.in-Repeat.objects c.as_slice-objects.result.now
    c.requires.sound c.requires.within c.index.ensures c.in-Repeat.is c.as_slice-objects.ensures in
    record { stands = m.stand; board = m.board }

pub of-boxes-requires : goal.of-boxes-requires
of-boxes-requires c =
    listed_measurable c.args.layer.now c.args.place c.index.result.now _ _ _ _ c.in-Repeat.objects c.as_slice-objects.result.now
    c.requires.sound c.requires.within c.index.ensures c.in-Repeat.is c.as_slice-objects.ensures

pub returns-clause-there : goal.returns-clause-there
returns-clause-there c = λ item here at.
    let layer = c.args.layer.now in
    let r = c.in-Repeat in
    let slice = c.as_slice-objects.result.now in
    let first : FirstCopied =
    record { place = c.self.inside.place; bounds = c.block_bounds-bounds.result; reaches = c.read_again.new.self } in
    let cells = subst (λ (p : List (ℕ × Entry) × List Object). AreCellsOf (object_boxes p.0 p.1) c.read_again.new.self)
    c.of-boxes.ensures c.read_again.ensures.cells in
    let whole : IsFirstCopyOf layer.apertures (Repeat r.columns r.rows r.i r.j slice) first =
    (c.block_bounds-bounds.ensures.value, cells) in
    subst (λ (x : Item). IsFirstCopyOf layer.apertures x first)
    (ap (λ (os : List Object). Repeat r.columns r.rows r.i r.j os) c.as_slice-objects.ensures
    ∙ sym r.is ∙ c.index.ensures ∙ get_or_from_slice_get layer.items.items c.args.place item c.index.result.now at)
    whole

pub returns-clause-place : goal.returns-clause-place
returns-clause-place c = grind (arith)
