use Rattle.std.proofs.Common.{arith, ◌≡◌, IfOk, List, ◌<◌, rules, subst, sym}
use Rattle.cam_units.specs.declared.bounds.Bounds.{Bounds}
use Rattle.cam_edits.specs.Moving.{way}
use Rattle.cam_edits.proofs.TouchedBoxes.{aperture_boxes, aperture_within, delete_box, delete_within, insert_box, move_boxes, move_within}
use Rattle.cam_edits.proofs.TouchedBoxes.{polarity_boxes, polarity_within, reorder_boxes, reorder_within, short_move, sound_aperture}
use Rattle.cam_edits.proofs.TouchedBoxes.{fields_boxes, put_boxes, sound_before, sound_insertion, take_boxes}
use Rattle.cam_edits.proofs.touched.touched.Goals as goal

pub bounds_of-requires : goal.bounds_of-requires
bounds_of-requires c = sound_insertion _ _ c.requires.accepted c.in-Insert.k c.in-Insert.item c.in-Insert.is

pub item_bounds-requires-clause-within : goal.item_bounds-requires-clause-within
item_bounds-requires-clause-within c = delete_within _ _ c.requires.accepted c.in-Delete.k c.in-Delete.is

pub index-requires : goal.index-requires
index-requires c =
    subst (λ n. c.in-Move.k < n) (sym c.args.layer.now.items.ok.0)
    (move_within _ _ c.requires.accepted c.in-Move.k (way c.in-Move.dx c.in-Move.dy) c.in-Move.is)

pub moved_bounds-after-requires-clause-item : goal.moved_bounds-after-requires-clause-item
moved_bounds-after-requires-clause-item c =
    sound_before _ _ c.requires.accepted c.requires.sound c.in-Move.k _ c.index.ensures
    (way c.in-Move.dx c.in-Move.dy) c.in-Move.is

pub moved_bounds-after-requires-clause-by : goal.moved_bounds-after-requires-clause-by
moved_bounds-after-requires-clause-by c =
    let by : c.way.result ≡ way c.in-Move.dx c.in-Move.dy = search rules in
    rw by
    (short_move _ _ c.requires.accepted c.requires.sound c.in-Move.k _ c.index.ensures
    (way c.in-Move.dx c.in-Move.dy) c.in-Move.is)

pub item_bounds-requires-in-Move-clause-within : goal.item_bounds-requires-in-Move-clause-within
item_bounds-requires-in-Move-clause-within c =
    move_within _ _ c.requires.accepted c.in-Move.k (way c.in-Move.dx c.in-Move.dy) c.in-Move.is

pub item_bounds-requires-in-Reorder-clause-within : goal.item_bounds-requires-in-Reorder-clause-within
item_bounds-requires-in-Reorder-clause-within c =
    reorder_within _ _ c.requires.accepted c.in-Reorder.k c.in-Reorder.m c.in-Reorder.is

pub index-requires-in-Aperture : goal.index-requires-in-Aperture
index-requires-in-Aperture c =
    subst (λ n. c.in-Aperture.k < n) (sym c.args.layer.now.items.ok.0)
    (aperture_within _ _ c.requires.accepted c.in-Aperture.k c.in-Aperture.n c.in-Aperture.is)

pub bounds_with_aperture-after-requires : goal.bounds_with_aperture-after-requires
bounds_with_aperture-after-requires c =
    sound_aperture _ _ c.requires.accepted c.requires.sound c.in-Aperture.k _ c.index-in-Aperture.ensures c.in-Aperture.n
    c.in-Aperture.is

pub item_bounds-requires-in-Aperture-clause-within : goal.item_bounds-requires-in-Aperture-clause-within
item_bounds-requires-in-Aperture-clause-within c =
    aperture_within _ _ c.requires.accepted c.in-Aperture.k c.in-Aperture.n c.in-Aperture.is

pub item_bounds-requires-in-Polarity-clause-within : goal.item_bounds-requires-in-Polarity-clause-within
item_bounds-requires-in-Polarity-clause-within c =
    polarity_within _ _ c.requires.accepted c.in-Polarity.k c.in-Polarity.dark c.in-Polarity.is

pub returns-in-Insert : goal.returns-in-Insert
returns-in-Insert c =
    subst (λ (bs : List Bounds). IfOk c.one_box.result (λ boxes. boxes.items ≡ bs))
    (insert_box _ _ c.requires.accepted c.in-Insert.k c.in-Insert.item c.in-Insert.is _ c.bounds_of.ensures)
    c.one_box.ensures

pub returns-in-Delete : goal.returns-in-Delete
returns-in-Delete c =
    subst (λ (bs : List Bounds). IfOk c.one_box-in-Delete.result (λ boxes. boxes.items ≡ bs))
    (delete_box _ _ c.requires.accepted c.in-Delete.k c.in-Delete.is _ c.item_bounds.ensures) c.one_box-in-Delete.ensures

pub returns-in-Move : goal.returns-in-Move
returns-in-Move c =
    let by : c.way.result ≡ way c.in-Move.dx c.in-Move.dy = search rules in
    let after = rw by at c.moved_bounds-after.ensures in
    subst (λ (bs : List Bounds). IfOk c.two_boxes.result (λ boxes. boxes.items ≡ bs))
    (move_boxes _ _ c.requires.accepted c.in-Move.k (way c.in-Move.dx c.in-Move.dy) c.in-Move.is _ c.index.ensures _ _
    c.item_bounds-in-Move.ensures after)
    c.two_boxes.ensures

pub returns-in-Reorder : goal.returns-in-Reorder
returns-in-Reorder c =
    subst (λ (bs : List Bounds). IfOk c.kept_box.result (λ boxes. boxes.items ≡ bs))
    (reorder_boxes _ _ c.requires.accepted c.in-Reorder.k c.in-Reorder.m c.in-Reorder.is _ c.item_bounds-in-Reorder.ensures)
    c.kept_box.ensures

pub returns-in-Aperture : goal.returns-in-Aperture
returns-in-Aperture c =
    subst (λ (bs : List Bounds). IfOk c.two_boxes-in-Aperture.result (λ boxes. boxes.items ≡ bs))
    (aperture_boxes _ _ c.requires.accepted c.in-Aperture.k c.in-Aperture.n c.in-Aperture.is _ c.index-in-Aperture.ensures
    _ _ c.item_bounds-in-Aperture.ensures c.bounds_with_aperture-after.ensures)
    c.two_boxes-in-Aperture.ensures

pub returns-in-Polarity : goal.returns-in-Polarity
returns-in-Polarity c =
    subst (λ (bs : List Bounds). IfOk c.kept_box-in-Polarity.result (λ boxes. boxes.items ≡ bs))
    (polarity_boxes _ _ c.requires.accepted c.in-Polarity.k c.in-Polarity.dark c.in-Polarity.is _
    c.item_bounds-in-Polarity.ensures)
    c.kept_box-in-Polarity.ensures

pub returns-in-PutAttribute : goal.returns-in-PutAttribute
returns-in-PutAttribute c = grind (arith, put_boxes)

pub returns-in-TakeAttribute : goal.returns-in-TakeAttribute
returns-in-TakeAttribute c = grind (arith, take_boxes)

pub returns-in-SetFields : goal.returns-in-SetFields
returns-in-SetFields c = grind (arith, fields_boxes)
