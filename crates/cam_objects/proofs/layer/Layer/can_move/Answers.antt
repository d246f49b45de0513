use Rattle.std.proofs.Common.{◌≡◌, ◌↔◌, ℕ, List, [], IsTrue, false, map, ap, sym, subst, ◌∙◌, arith}
use Rattle.std.proofs.lemmas.Bool.{false≢true}
use Rattle.std.proofs.lemmas.List.Elements.{All-head}
use Rattle.cam_units.specs.declared.point.Point.{Point}
use Rattle.cam_objects.specs.declared.entry.Entry.{Entry}
use Rattle.cam_objects.specs.declared.item.Item.{Item}
use Rattle.cam_objects.specs.declared.item.Item.TheVariants.{One}
use Rattle.cam_objects.specs.declared.object.Object.{Object}
use Rattle.cam_objects.specs.Bounds.{moved}
use Rattle.cam_objects.specs.Leaves.{meaning_in, object_leaves, origin}
use Rattle.cam_objects.specs.Machinery.Inside.{IsBoxOnBoard}
use Rattle.cam_objects.specs.Shifting.{shifted_item, shifted_object}
use Rattle.cam_objects.specs.Soundness.{IsInside, IsSoundItem, is_drawable, points_of}
use Rattle.cam_objects.proofs.ItemCopies.{repeat_again}
use Rattle.cam_objects.proofs.MovedBoxes.{
  all_stand_moved,
  first_moved,
  inside_moved,
  near_first,
  near_leaves,
  near_points,
  near_standing,
  refused,
  stands_moved,
}
use Rattle.cam_objects.proofs.PaintedBoxes.{inside_repeat, outside_repeat}
use Rattle.cam_objects.proofs.SoundItems.{IsDrawable, meets}
use Rattle.cam_objects.proofs.layer.Layer.can_move.Goals as goal

-- ---- an object

one_inside : (es : List (ℕ × Entry)) (item : Item) (o : Object) → item ≡ One o → IsSoundItem es item
    → IsInside es (One o) × IsTrue (is_drawable (meaning_in es) o)
one_inside es item o is sound =
    let m = meets es (One o) (subst (IsSoundItem es) is sound) in
    (m.inside, All-head (IsDrawable (meaning_in es)) o [] m.drawable)

pub standing_box-requires : goal.standing_box-requires
standing_box-requires c =
    (one_inside _ _ c.in-One.object c.in-One.is c.requires.item).0.points 0 c.in-One.object (omega arith)

pub moved-requires-clause-bounds : goal.moved-requires-clause-bounds
moved-requires-clause-bounds c =
    near_points (points_of c.in-One.object) c.standing_box.result c.standing_box.ensures
    ((one_inside _ _ c.in-One.object c.in-One.is c.requires.item).0.points 0 c.in-One.object (omega arith))

pub returns-then-not-fits_box : goal.returns-then-not-fits_box
returns-then-not-fits_box c =
    let o = c.in-One.object in
    let by = c.args.by in
    let same = c.moved.ensures ∙ ap (moved by) c.standing_box.ensures in
    subst (λ (item : Item). IsTrue false ↔ IsInside c.args.self.now.apertures (shifted_item by item)) (sym c.in-One.is)
    (refused c.fits_box.result c.moved.result c.if-not-fits_box.true c.fits_box.ensures
    (λ h. subst IsBoxOnBoard (sym same) ((stands_moved by o).1 (h.points 0 (shifted_object by o) (omega arith)))))

pub painted_box-requires : goal.painted_box-requires
painted_box-requires c =
    let one = one_inside _ _ c.in-One.object c.in-One.is c.requires.item in
    record { stands = one.0.points 0 c.in-One.object (omega arith); drawable = one.1 }

pub moved-requires-in-One-clause-bounds : goal.moved-requires-in-One-clause-bounds
moved-requires-in-One-clause-bounds c =
    let o = c.in-One.object in
    near_leaves (object_leaves (meaning_in c.args.self.now.apertures) origin o) c.painted_box.result c.painted_box.ensures
    (one_inside _ _ o c.in-One.is c.requires.item).0.leaves

pub returns-else-not-fits_box : goal.returns-else-not-fits_box
returns-else-not-fits_box c =
    let o = c.in-One.object in
    let by = c.args.by in
    let es = c.args.self.now.apertures in
    let same = c.moved.ensures ∙ ap (moved by) c.standing_box.ensures in
    let stands = (stands_moved by o).0 (subst IsBoxOnBoard same (c.fits_box.ensures.0 c.if-not-fits_box.false)) in
    subst (λ (item : Item). IsTrue c.fits_box-in-One.result ↔ IsInside es (shifted_item by item)) (sym c.in-One.is)
    (inside_moved by es o c.painted_box.result c.moved-in-One.result c.fits_box-in-One.result stands c.painted_box.ensures
    c.moved-in-One.ensures c.fits_box-in-One.ensures)

-- ---- a repeat

pub standing_boxes-requires : goal.standing_boxes-requires
standing_boxes-requires c =
    let made = repeat_again _ _ _ _ _ _ _ _ c.in-Repeat.is c.copies-copies.ensures c.as_slice-objects.ensures in
    (meets _ _ (subst (IsSoundItem c.args.self.now.apertures) made c.requires.item)).inside.points

pub moved-requires-in-Repeat-clause-bounds : goal.moved-requires-in-Repeat-clause-bounds
moved-requires-in-Repeat-clause-bounds c =
    let made = repeat_again _ _ _ _ _ _ _ _ c.in-Repeat.is c.copies-copies.ensures c.as_slice-objects.ensures in
    near_standing c.as_slice-objects.result.now c.standing_boxes.result c.standing_boxes.ensures
    (meets _ _ (subst (IsSoundItem c.args.self.now.apertures) made c.requires.item)).inside.points

pub returns-then-not-fits_box-2 : goal.returns-then-not-fits_box-2
returns-then-not-fits_box-2 c =
    let by = c.args.by in
    let made = repeat_again _ _ _ _ _ _ _ _ c.in-Repeat.is c.copies-copies.ensures c.as_slice-objects.ensures in
    let same = c.moved-in-Repeat.ensures ∙ ap (moved by) c.standing_boxes.ensures in
    subst (λ (item : Item). IsTrue false ↔ IsInside c.args.self.now.apertures (shifted_item by item)) (sym made)
    (refused c.fits_box-in-Repeat.result c.moved-in-Repeat.result c.if-not-fits_box-2.true c.fits_box-in-Repeat.ensures
    (λ h. subst IsBoxOnBoard (sym same) ((all_stand_moved by c.as_slice-objects.result.now).1 h.points)))

pub painted_boxes-requires : goal.painted_boxes-requires
painted_boxes-requires c =
    let made = repeat_again _ _ _ _ _ _ _ _ c.in-Repeat.is c.copies-copies.ensures c.as_slice-objects.ensures in
    let m = meets _ _ (subst (IsSoundItem c.args.self.now.apertures) made c.requires.item) in
    record { stands = m.inside.points; drawable = m.drawable }

pub moved-one-requires-clause-bounds : goal.moved-one-requires-clause-bounds
moved-one-requires-clause-bounds c =
    let p = c.copies-copies.result in
    let made = repeat_again _ _ _ _ _ _ _ _ c.in-Repeat.is c.copies-copies.ensures c.as_slice-objects.ensures in
    let m = meets _ _ (subst (IsSoundItem c.args.self.now.apertures) made c.requires.item) in
    near_first c.args.self.now.apertures p.columns p.rows p.i p.j c.as_slice-objects.result.now c.painted_boxes.result
    m.repeated.0 c.painted_boxes.ensures m.inside

pub returns-then-not-fits_box-3 : goal.returns-then-not-fits_box-3
returns-then-not-fits_box-3 c =
    let by = c.args.by in
    let es = c.args.self.now.apertures in
    let p = c.copies-copies.result in
    let objects = c.as_slice-objects.result.now in
    let made = repeat_again _ _ _ _ _ _ _ _ c.in-Repeat.is c.copies-copies.ensures c.as_slice-objects.ensures in
    let m = meets es _ (subst (IsSoundItem es) made c.requires.item) in
    subst (λ (item : Item). IsTrue false ↔ IsInside es (shifted_item by item)) (sym made)
    (outside_repeat es p.columns p.rows p.i p.j (map (shifted_object by) objects) c.moved-one.result m.repeated.0
    (first_moved by es objects c.painted_boxes.result c.moved-one.result c.painted_boxes.ensures c.moved-one.ensures)
    (λ h. false≢true (sym c.if-not-fits_box-3.true ∙ c.fits_box-in-Repeat-2.ensures.1 h)))

pub last-requires : goal.last-requires
last-requires c =
    let made = repeat_again _ _ _ _ _ _ _ _ c.in-Repeat.is c.copies-copies.ensures c.as_slice-objects.ensures in
    let m = meets _ _ (subst (IsSoundItem c.args.self.now.apertures) made c.requires.item) in
    record { copies = omega (arith, m.repeated.0); across = m.inside.steps.0; up = m.inside.steps.1 }

pub returns-else-not-fits_box-3 : goal.returns-else-not-fits_box-3
returns-else-not-fits_box-3 c =
    let by = c.args.by in
    let es = c.args.self.now.apertures in
    let p = c.copies-copies.result in
    let objects = c.as_slice-objects.result.now in
    let made = repeat_again _ _ _ _ _ _ _ _ c.in-Repeat.is c.copies-copies.ensures c.as_slice-objects.ensures in
    let m = meets es _ (subst (IsSoundItem es) made c.requires.item) in
    let same = c.moved-in-Repeat.ensures ∙ ap (moved by) c.standing_boxes.ensures in
    subst (λ (item : Item). IsTrue c.fits_box-in-Repeat-3.result ↔ IsInside es (shifted_item by item)) (sym made)
    (inside_repeat es p.columns p.rows p.i p.j (map (shifted_object by) objects) c.moved-one.result c.moved-in-Repeat-2.result
    c.fits_box-in-Repeat-3.result m.repeated.0
    ((all_stand_moved by objects).0 (subst IsBoxOnBoard same (c.fits_box-in-Repeat.ensures.0 c.if-not-fits_box-2.false)))
    m.inside.steps
    (first_moved by es objects c.painted_boxes.result c.moved-one.result c.painted_boxes.ensures c.moved-one.ensures)
    (c.fits_box-in-Repeat-2.ensures.0 c.if-not-fits_box-3.false)
    (c.moved-in-Repeat-2.ensures ∙ ap (λ (o : Point). moved o c.moved-one.result) c.last.ensures.value)
    c.fits_box-in-Repeat-3.ensures)

pub moved-requires-in-Repeat-2-clause-bounds : goal.moved-requires-in-Repeat-2-clause-bounds
moved-requires-in-Repeat-2-clause-bounds c = grind (arith)
