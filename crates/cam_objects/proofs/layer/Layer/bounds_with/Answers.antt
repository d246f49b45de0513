use Rattle.std.proofs.Common.{◌≡◌, ◌∙◌, ◌*◌, ◌<◌, ℕ, ℤ, List, ap, refl, sym, subst, arith}
use Rattle.std.specs.Option.{IfSome}
use Rattle.cam_units.specs.Boxes.{join_of}
use Rattle.cam_units.specs.declared.bounds.Bounds.{Bounds}
use Rattle.cam_objects.specs.declared.entry.Entry.{Entry}
use Rattle.cam_objects.specs.declared.item.Item.{Item}
use Rattle.cam_objects.specs.declared.item.Item.TheVariants.{Repeat}
use Rattle.cam_objects.specs.declared.object.Object.{Object}
use Rattle.cam_objects.specs.declared.placing.copies.Copies.{Copies}
use Rattle.cam_objects.specs.Bounds.{bounds_of, moved}
use Rattle.cam_objects.specs.Cells.{FirstCopied, IsFirstCopyOf}
use Rattle.cam_objects.specs.Leaves.{block_leaves, item_leaves, meaning_in, origin}
use Rattle.cam_objects.specs.Machinery.Boxes.{IsBoxedRepeat, IsNearBox, copies_of}
use Rattle.cam_objects.specs.Machinery.Inside.{last_copy}
use Rattle.cam_objects.specs.Soundness.{IsSoundDictionary, IsSoundItem}
use Rattle.cam_objects.proofs.ItemBounds.{bounded_repeat, first_on_board, near_block}
use Rattle.cam_objects.proofs.ItemCopies.{boxed_repeat, repeat_again}
use Rattle.cam_objects.proofs.ObjectCells.{measured}
use Rattle.cam_objects.proofs.SoundItems.{meets}
use Rattle.cam_objects.proofs.layer.Layer.bounds_with.Goals.{in-Some, in-None}
use Rattle.cam_objects.proofs.layer.Layer.bounds_with.Goals as goal

-- the box of a sound repeat, from that of its first copy
record Boxed (es : List (ℕ × Entry)) (item : Item) (p : Copies) (first : Bounds) : Type 0 where
  some : 0 < p.columns * p.rows
  repeat : (objects : List Object) × IsBoxedRepeat es p objects
  near : IsNearBox first
  whole : (b : Bounds) → b ≡ join_of first (moved (last_copy p.columns p.rows p.i p.j) first)
      → b ≡ bounds_of (item_leaves (meaning_in es) item)

boxed : (es : List (ℕ × Entry)) (item : Item) (p : Copies) (columns rows : ℕ) (i j : ℤ) (objects : List Object) (first : Bounds)
    → IsSoundDictionary es → IsSoundItem es item → item ≡ Repeat columns rows i j objects → p ≡ copies_of item
    → first ≡ bounds_of (block_leaves (meaning_in es) origin objects) → Boxed es item p first
boxed es item p columns rows i j objects first entries sound is copies box =
    let made = repeat_again item p columns rows i j objects objects is copies refl in
    let repeat = boxed_repeat es p objects (subst (IsSoundItem es) made sound) in
    let some : 0 < p.columns * p.rows = omega (arith, repeat.many) in
    let board = first_on_board (meaning_in es) p.columns p.rows p.i p.j objects some repeat.board in
    record {
      some = some;
      repeat = (objects, repeat);
      near = subst IsNearBox (sym box) (near_block es entries objects board);
      whole = λ b all. bounded_repeat es entries objects board p.columns p.rows p.i p.j first b some box all
          ∙ ap (λ (x : Item). bounds_of (item_leaves (meaning_in es) x)) (sym made);
    }

pub object_bounds-requires-clause-stands : goal.object_bounds-requires-clause-stands
object_bounds-requires-clause-stands c = grind (arith, meets)

pub block_bounds-first-requires : goal.block_bounds-first-requires
block_bounds-first-requires c =
    let m = measured c.args.self.now.apertures c.args.item.now _ _ _ _ c.in-Repeat.objects c.as_slice.result.now c.soundness.ensures
    c.requires.item c.in-Repeat.is c.as_slice.ensures in
    record { stands = m.stand; board = m.board }

pub bounds-requires : goal.bounds-requires
bounds-requires c =
    let es = c.args.self.now.apertures in
    let r = c.in-Repeat in
    let first : c.match-known.first ≡ bounds_of (block_leaves (meaning_in es) origin r.objects) =
    elim c.match-known.branch [
      | in-Some w ↦
          w.first-is ∙ ap (λ (f : FirstCopied). f.bounds) w.known.view_is
          ∙ (subst (λ (x : Item). IsFirstCopyOf es x w.in-Some.known.now) r.is
          (subst (λ o. IfSome o (λ known. IsFirstCopyOf es c.args.item.now known.now)) w.in-Some.is c.requires.known)).0
      | in-None w ↦
          w.first-is ∙ w.block_bounds-first.ensures.value
          ∙ ap (λ (os : List Object). bounds_of (block_leaves (meaning_in es) origin os)) w.as_slice.ensures
    ] in
    let b = boxed es c.args.item.now c.copies.result r.columns r.rows r.i r.j r.objects c.match-known.first c.soundness.ensures
    c.requires.item r.is c.copies.ensures first in
    record { copies = b.some; across = b.repeat.1.across; up = b.repeat.1.up; first = b.near }

pub returns-after-known : goal.returns-after-known
returns-after-known c =
    let es = c.args.self.now.apertures in
    let r = c.in-Repeat in
    let first : c.match-known.first ≡ bounds_of (block_leaves (meaning_in es) origin r.objects) =
    elim c.match-known.branch [
      | in-Some w ↦
          w.first-is ∙ ap (λ (f : FirstCopied). f.bounds) w.known.view_is
          ∙ (subst (λ (x : Item). IsFirstCopyOf es x w.in-Some.known.now) r.is
          (subst (λ o. IfSome o (λ known. IsFirstCopyOf es c.args.item.now known.now)) w.in-Some.is c.requires.known)).0
      | in-None w ↦
          w.first-is ∙ w.block_bounds-first.ensures.value
          ∙ ap (λ (os : List Object). bounds_of (block_leaves (meaning_in es) origin os)) w.as_slice.ensures
    ] in
    let b = boxed es c.args.item.now c.copies.result r.columns r.rows r.i r.j r.objects c.match-known.first c.soundness.ensures
    c.requires.item r.is c.copies.ensures first in
    b.whole c.bounds.result c.bounds.ensures
