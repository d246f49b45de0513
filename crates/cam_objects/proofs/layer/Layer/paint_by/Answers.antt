use Rattle.std.proofs.Common.{◌≡◌, ◌∙◌, ◌<◌, ℕ, Some, ap, get_or, length, lit<, pos, sym, subst, arith}
use Rattle.std.proofs.lemmas.Option.{get_or_from_slice_get, slice_get-get_or}
use Rattle.std.specs.Option.{IfSome}
use Rattle.cam_objects.specs.declared.item.Item.{Item}
use Rattle.cam_objects.specs.declared.layer.Layer.{Layer}
use Rattle.cam_objects.specs.declared.placing.place.Place.{Place}
use Rattle.cam_objects.specs.Bounds.{bounds_of}
use Rattle.cam_objects.specs.Canvases.{Paints}
use Rattle.cam_objects.specs.Cells.{AreCellsOf, FirstCopied, IsFirstCopyOf, object_boxes}
use Rattle.cam_objects.specs.Leaves.{Meaning, block_leaves, item_leaves, meaning_in, object_leaves, origin}
use Rattle.cam_objects.specs.Machinery.Boxes.{IsNearBox}
use Rattle.cam_objects.specs.Machinery.ObjectCells.{AreObjectCells}
use Rattle.cam_objects.specs.Machinery.Painting.{IsPaintableItem, IsReadyToPrint, meaning_before}
use Rattle.cam_objects.specs.Soundness.{HasSoundItems, IsSoundItem}
use Rattle.cam_objects.proofs.ItemBounds.{near_block}
use Rattle.cam_objects.proofs.ItemCopies.{boxed_repeat, repeat_again}
use Rattle.cam_objects.proofs.ObjectCells.{listed_measurable, near_objects}
use Rattle.cam_objects.proofs.Painting.{meaning_whole, paintable_whole, ready_piece}
use Rattle.cam_objects.proofs.SoundLayers.{paintable_items, ready_layer}
use Rattle.cam_objects.proofs.layer.Layer.paint_by.Goals.{in-Some, in-None}
use Rattle.cam_objects.proofs.layer.Layer.paint_by.Goals as goal

-- what painting asks of an item that is listed
asked : (layer : Layer) (place : ℕ) (x : Item) → HasSoundItems layer → place < length layer.items.items
    → x ≡ get_or layer.items.items place x
    → IsPaintableItem x × IsReadyToPrint layer.apertures (item_leaves (meaning_in layer.apertures) x)
asked layer place x sound within here = (
  subst IsPaintableItem (sym here) (paintable_items layer sound place x within),
  ready_piece layer.apertures (item_leaves (meaning_in layer.apertures)) layer.items.items place x within here
      (ready_layer layer sound),
)

pub paint_object-requires-clause-object : goal.paint_object-requires-clause-object
paint_object-requires-clause-object g c = grind (arith, asked)

pub paint_object-requires-clause-ready : goal.paint_object-requires-clause-ready
paint_object-requires-clause-ready g c =
    let layer = c.args.self.now in
    let es = layer.apertures in
    paintable_whole es c.len.result (pos 0) (pos 0) c.origin.result
    (λ means p. object_leaves means p c.in-One.object)
    c.len.ensures.value c.origin.ensures (lit< tt) (lit< tt)
    (subst (λ (item : Item). IsReadyToPrint es (item_leaves (meaning_in es) item)) c.in-One.is
    (asked layer c.args.place c.index-item.result.now c.requires.sound c.requires.within c.index-item.ensures).1)

pub returns-in-One : goal.returns-in-One
returns-in-One g c = λ item at.
    let canvas = g.C.Canvas in
    let layer = c.args.self.now in
    subst (λ (x : Item). Paints canvas.has canvas.place canvas.ink c.args.canvas.now
    (item_leaves (meaning_in layer.apertures) x) c.paint_object.new.canvas)
    (sym c.in-One.is ∙ c.index-item.ensures ∙ get_or_from_slice_get layer.items.items c.args.place item c.index-item.result.now at)
    (subst (λ (means : ℕ → Meaning). Paints canvas.has canvas.place canvas.ink c.args.canvas.now
    (object_leaves means origin c.in-One.object) c.paint_object.new.canvas)
    (meaning_whole layer.apertures c.len.result c.len.ensures.value)
    (subst (λ (p : Place). Paints canvas.has canvas.place canvas.ink c.args.canvas.now
    (object_leaves (meaning_before c.len.result layer.apertures) p c.in-One.object) c.paint_object.new.canvas)
    c.origin.ensures c.paint_object.ensures))

pub block_bounds-requires : goal.block_bounds-requires
block_bounds-requires g c =
    let m = listed_measurable c.args.self.now c.args.place c.index-item.result.now _ _ _ _ c.in-Repeat.objects c.as_slice-objects.result.now
    c.requires.sound c.requires.within c.index-item.ensures c.in-Repeat.is c.as_slice-objects.ensures in
    record { stands = m.stand; board = m.board }

pub paint-requires-clause-repeat : goal.paint-requires-clause-repeat
paint-requires-clause-repeat g c =
    let layer = c.args.self.now in
    let es = layer.apertures in
    let p = c.copies.result in
    let x = c.index-item.result.now in
    let objects = c.as_slice-objects.result.now in
    let known = c.match-known.first in
    let made = repeat_again _ _ _ _ _ _ _ _ c.in-Repeat.is c.copies.ensures c.as_slice-objects.ensures in
    let item = subst IsPaintableItem made
    (asked layer c.args.place x c.requires.sound c.requires.within c.index-item.ensures).0 in
    let boxed = boxed_repeat es p objects
    (subst (IsSoundItem es) (sym c.index-item.ensures ∙ made) (c.requires.sound.items c.args.place x c.requires.within)) in
    let m = listed_measurable layer c.args.place x _ _ _ _ c.in-Repeat.objects objects
    c.requires.sound c.requires.within c.index-item.ensures c.in-Repeat.is c.as_slice-objects.ensures in
    let first : (known.0 ≡ bounds_of (block_leaves (meaning_in es) origin objects))
    × IfSome known.1 (λ kept. AreObjectCells es objects kept.now) =
    elim c.match-known.branch [
      | in-Some w ↦
          (let told = subst (λ (item : Item). IsFirstCopyOf es item w.in-Some.known.now) made
          (subst (λ o. IfSome o (λ known. IsFirstCopyOf es x known.now)) w.in-Some.is
          (c.requires.known x (slice_get-get_or layer.items.items c.args.place x c.requires.within ∙ ap Some (sym c.index-item.ensures)))) in
          rw w.first-is (
            ap (λ (f : FirstCopied). f.bounds) w.known.view_is ∙ told.0,
            record {
              cells = subst (AreCellsOf (object_boxes es objects)) (sym (ap (λ (f : FirstCopied). f.reaches) w.known.view_is)) told.1;
              near = near_objects es objects c.requires.sound.entries m.board;
            },
          ))
      | in-None w ↦ rw w.first-is (w.block_bounds.ensures.value, tt)
    ] in
    record {
      some = omega (arith, boxed.many);
      first = first.0;
      near = subst IsNearBox (sym first.0) (near_block es c.requires.sound.entries objects m.board);
      cells = first.1;
      across = item.0;
      up = item.1;
    }

pub paint-requires-clause-ready : goal.paint-requires-clause-ready
paint-requires-clause-ready g c = grind (arith, repeat_again, asked)

pub returns-after-known : goal.returns-after-known
returns-after-known g c = λ item at. grind (arith, repeat_again, get_or_from_slice_get)
