use Rattle.std.proofs.Common.{◌∙◌, List, sym, ap, subst}
use Rattle.std.proofs.lemmas.Option.{get_or_from_slice_get}
use Rattle.cam_objects.specs.declared.item.Item.{Item}
use Rattle.cam_objects.specs.declared.item.Item.TheVariants.{Repeat}
use Rattle.cam_objects.specs.declared.object.Object.{Object}
use Rattle.cam_objects.specs.Cells.{FirstCopied, IsFirstCopyOf}
use Rattle.cam_objects.proofs.ObjectCells.{listed_measurable}
use Rattle.cam_objects.proofs.layer.Layer.first_copy.Goals as goal

pub block_bounds-requires : goal.block_bounds-requires
block_bounds-requires c =
    let m = listed_measurable c.args.self.now c.args.place c.index.result.now _ _ _ _ c.in-Repeat.objects c.as_slice-objects.result.now
    c.requires.sound c.requires.within c.index.ensures c.in-Repeat.is c.as_slice-objects.ensures in
    record { stands = m.stand; board = m.board }

pub object_cells-requires : goal.object_cells-requires
object_cells-requires c =
    listed_measurable c.args.self.now c.args.place c.index.result.now _ _ _ _ c.in-Repeat.objects c.as_slice-objects.result.now
    c.requires.sound c.requires.within c.index.ensures c.in-Repeat.is c.as_slice-objects.ensures

pub returns-clause-value : goal.returns-clause-value
returns-clause-value c = λ item at.
    let layer = c.args.self.now in
    let first : FirstCopied = record { place = c.args.place; bounds = c.block_bounds.result; reaches = c.object_cells.result } in
    let whole : IsFirstCopyOf layer.apertures (Repeat c.in-Repeat.columns c.in-Repeat.rows c.in-Repeat.i c.in-Repeat.j c.as_slice-objects.result.now) first =
    (c.block_bounds.ensures.value, c.object_cells.ensures.cells) in
    subst (λ (x : Item). IsFirstCopyOf layer.apertures x first)
    (ap (λ (os : List Object). Repeat c.in-Repeat.columns c.in-Repeat.rows c.in-Repeat.i c.in-Repeat.j os) c.as_slice-objects.ensures
    ∙ sym c.in-Repeat.is ∙ c.index.ensures ∙ get_or_from_slice_get layer.items.items c.args.place item c.index.result.now at)
    whole
