use Rattle.std.proofs.Common.{◌≡◌, ℕ, ◌+◌, ◌-◌, ◌<◌, ◌≤◌, List, length, take, slice_get, get_or, Some, sym, ap, subst, ◌∙◌, arith}
use Rattle.std.specs.Option.{IfSome}
use Rattle.cam_units.specs.Board.{IsSize}
use Rattle.cam_objects.specs.declared.object.Object.{Object}
use Rattle.cam_objects.specs.declared.entry.Entry.{Entry}
use Rattle.cam_objects.specs.declared.entry.Entry.TheVariants.{Aperture, Block}
use Rattle.cam_objects.specs.Bounds.{bounds_of}
use Rattle.cam_objects.specs.Leaves.{Leaf, Meaning, block_leaves, meaning_in, object_leaves, round_width}
use Rattle.cam_objects.specs.Machinery.ObjectCells.{AreObjectCells}
use Rattle.cam_objects.specs.Machinery.Painting.{IsPrintable, StandsOnBoard, flash_leaves, meaning_before}
use Rattle.cam_objects.specs.Soundness.{AreOnBoard}
use Rattle.cam_objects.proofs.ObjectCells.{paints_past, unseen_between}
use Rattle.cam_objects.proofs.PaintedRuns.{still_unseen}
use Rattle.cam_objects.proofs.Canvases.{paints_boxed, paints_last, paints_next, paints_nothing, sound_print}
use Rattle.cam_objects.proofs.ItemBounds.{flash_box, meaning_among}
use Rattle.cam_objects.proofs.Painting.{
  aperture_sound,
  block_stands,
  drawn_points,
  filled_placeable,
  meaning-absent,
  meaning-at,
  meaning-later,
  paintable_block,
  paintable_object,
  paintable_stamp,
  stands_at,
  swept_points,
}
use Rattle.cam_objects.proofs.Placed.{reach_box, reach_flashed, reach_offset}
use Rattle.cam_objects.proofs.SizedLeaves.{round_sized}
use Rattle.cam_objects.proofs.paint.objects.+paint.Goals as goal

-- ---- a block

pub paint_block-seen-near-requires : goal.paint_block-seen-near-requires
paint_block-seen-near-requires g t c = reach_box (c.args.upto + 1) c.args.place.now c.requires.ready.reach

pub paint_block-loop-end-init : goal.paint_block-loop-end-init
paint_block-loop-end-init g t c =
    let canvas = g.C.Canvas in
    let es = take c.args.upto c.args.entries.now in
    let p = c.args.place.now in
    let objects = c.args.objects.now in
    let v = c.args.canvas.now in
    let f : Object → List Leaf = object_leaves (meaning_in es) p in
    let first = c.near_end-end.result in
    let within : first ≤ length objects = c.near_end-end.ensures.within in
    record {
      listed = within;
      painted = paints_past canvas.has canvas.place canvas.ink f objects (length objects - first) first (length objects) v v
          (omega (arith, within)) (omega arith)
          (unseen_between canvas.has canvas.place v es objects c.args.cells (λ r. r.now) first (length objects) p c.bounds.result
          c.seen-near.result (omega arith) c.requires.cells c.bounds.ensures c.seen-near.ensures c.near_end-end.ensures.unknown
          c.near_end-end.ensures.apart)
          (paints_last canvas.has canvas.place canvas.ink f objects v);
    }

pub paint_block-paint_object-requires : goal.paint_block-paint_object-requires
paint_block-paint_object-requires g t c κs within =
    let i = c.loop-end.end - 1 in
    let objects = c.args.objects.now in
    let x = c.index-objects-k.result in
    let below : i < length objects = omega (arith, c.loop-end.invariant.listed) in (
      omega (arith, c.decreases),
      (
        within,
        (
          stands_at objects i x below c.index-objects-k.is c.requires.objects,
          paintable_object c.args.entries.now c.args.upto
              (c.args.upto + 1) i objects x c.args.place.now below c.index-objects-k.is c.requires.ready,
        ),
      ),
    )

pub paint_block-loop-end-preserved : goal.paint_block-loop-end-preserved
paint_block-loop-end-preserved g t c =
    let canvas = g.C.Canvas in
    let es = take c.args.upto c.args.entries.now in
    let p = c.args.place.now in
    let objects = c.args.objects.now in
    let u = c.args.canvas.now in
    let v = c.paint_object.new.canvas in
    let f : Object → List Leaf = object_leaves (meaning_in es) p in
    let k = c.loop-end.end - 1 in
    let first = c.near_end-end-in-loop-end.result in
    let within : first ≤ k = c.near_end-end-in-loop-end.ensures.within in
    let listed : k < length objects = omega (arith, c.loop-end.invariant.listed) in
    let later = paints_next canvas.has canvas.place canvas.ink f objects k c.loop-end.end c.index-objects-k.result u c.loop-end.canvas v
    (omega arith) listed c.index-objects-k.is c.loop-end.invariant.painted c.paint_object.ensures in
    record {
      listed = omega (arith, within, listed);
      painted = paints_past canvas.has canvas.place canvas.ink f objects (k - first) first k u v (omega (arith, within)) (omega (arith, listed))
          (λ j o from below. still_unseen canvas.has canvas.place canvas.ink u v _ (f (get_or objects j o)) later
          (unseen_between canvas.has canvas.place u es objects c.args.cells (λ r. r.now) first k p c.bounds.result
          c.seen-near.result (omega (arith, listed)) c.requires.cells c.bounds.ensures c.seen-near.ensures
          c.near_end-end-in-loop-end.ensures.unknown c.near_end-end-in-loop-end.ensures.apart j o from below))
          later;
    }

pub paint_block-returns : goal.paint_block-returns
paint_block-returns g t c = grind arith

-- ---- a flash

pub paint_flash-returns-in-None : goal.paint_flash-returns-in-None
paint_flash-returns-in-None g t c = grind (arith, meaning-absent, paints_nothing)

pub paint_flash-returns-then-upto-at : goal.paint_flash-returns-then-upto-at
paint_flash-returns-then-upto-at g t c = grind (arith, meaning-later, paints_nothing)

pub paint_flash-bounds-bounds-requires-clause-offset : goal.paint_flash-bounds-bounds-requires-clause-offset
paint_flash-bounds-bounds-requires-clause-offset g t c = reach_box c.args.upto c.args.place.now c.requires.reach

pub paint_flash-returns-then-misses : goal.paint_flash-returns-then-misses
paint_flash-returns-then-misses g t c =
    let canvas = g.C.Canvas in
    let v = c.args.canvas.now in
    let es = c.args.entries.now in
    let p = c.args.place.now in
    let among = meaning_among es c.in-Some.found.0 c.args.upto c.args.number c.in-Some.found.1.now c.find_with_facts.ensures.distinct
    c.in-Some.ensures.found (omega (arith, c.if-upto-at.false)) c.requires.within in
    let box = flash_box es c.args.number p c.in-Some.found.2.now c.bounds-bounds.result c.in-Some.ensures.value c.bounds-bounds.ensures in
    paints_boxed canvas.has canvas.place canvas.ink v (flash_leaves c.args.upto es c.args.number p) c.bounds-bounds.result
    (box ∙ ap (λ (m : Meaning). bounds_of (m.flash p)) (sym among)) (c.misses.ensures c.if-misses.true)

pub paint_flash-returns-then-is_decided_in : goal.paint_flash-returns-then-is_decided_in
paint_flash-returns-then-is_decided_in g t c =
    let canvas = g.C.Canvas in
    let v = c.args.canvas.now in
    let es = c.args.entries.now in
    let p = c.args.place.now in
    let among = meaning_among es c.in-Some.found.0 c.args.upto c.args.number c.in-Some.found.1.now c.find_with_facts.ensures.distinct
    c.in-Some.ensures.found (omega (arith, c.if-upto-at.false)) c.requires.within in
    let box = flash_box es c.args.number p c.in-Some.found.2.now c.bounds-bounds.result c.in-Some.ensures.value c.bounds-bounds.ensures in
    paints_boxed canvas.has canvas.place canvas.ink v (flash_leaves c.args.upto es c.args.number p) c.bounds-bounds.result
    (box ∙ ap (λ (m : Meaning). bounds_of (m.flash p)) (sym among)) (c.is_decided_in.ensures.0 c.if-is_decided_in.true)

pub paint_flash-paint-requires : goal.paint_flash-paint-requires
paint_flash-paint-requires g t c =
    let es = c.args.entries.now in
    let p = c.args.place.now in
    let i = c.in-Some.found.0 in
    let below : i < c.args.upto = omega (arith, c.if-upto-at.false) in
    let at : slice_get es i ≡ Some (c.args.number, Aperture c.in-Aperture.aperture) =
    c.in-Some.ensures.found ∙ ap (λ (e : Entry). Some (c.args.number, e)) c.in-Aperture.is in
    let entry = Aperture c.in-Aperture.aperture in
    let among = meaning_among es i c.args.upto c.args.number entry c.find_with_facts.ensures.distinct at below c.requires.within in
    let means = meaning-at es i c.args.upto c.args.number entry c.find_with_facts.ensures.distinct at below c.requires.within in
    let box = flash_box es c.args.number p c.in-Some.found.2.now c.bounds-bounds.result c.in-Some.ensures.value c.bounds-bounds.ensures in
    sound_print _ (
      aperture_sound es i c.args.number c.in-Aperture.aperture at c.requires.sound,
      paintable_stamp es c.args.upto i c.args.number c.in-Aperture.aperture p c.find_with_facts.ensures.distinct at below c.requires,
    )
    (box ∙ ap (λ (m : Meaning). bounds_of (m.flash p)) (sym among ∙ means))

pub paint_flash-paint_block-requires : goal.paint_flash-paint_block-requires
paint_flash-paint_block-requires g t c κs within =
    let es = c.args.entries.now in
    let i = c.in-Some.found.0 in
    let below : i < c.args.upto = omega (arith, c.if-upto-at.false) in
    let at : slice_get es i ≡ Some (c.args.number, Block c.in-Block.objects) =
    c.in-Some.ensures.found ∙ ap (λ (e : Entry). Some (c.args.number, e)) c.in-Block.is in
    let same : c.in-Block.objects ≡ c.as_slice.result.now = sym c.as_slice.ensures in (
      omega (arith, c.decreases, below),
      (
        within,
        (
          subst (λ (os : List Object). (k : ℕ) (d : Object) → k < length os → StandsOnBoard (get_or os k d)) same
              (block_stands es i c.args.number c.in-Block.objects at c.requires.sound),
          (
            subst (λ (os : List Object). AreObjectCells (take i es) os c.cells.result.now) same
                (c.cells.ensures c.args.number (Block c.in-Block.objects) at),
            subst (λ (os : List Object). IsPrintable es i (i + 1) c.args.place.now (block_leaves (meaning_before i es) c.args.place.now os))
                same
                (paintable_block es c.args.upto i c.args.number c.in-Block.objects c.args.place.now c.find_with_facts.ensures.distinct
                at below c.requires),
          ),
        ),
      ),
    )

pub paint_flash-returns-in-Aperture : goal.paint_flash-returns-in-Aperture
paint_flash-returns-in-Aperture g t c = grind (arith, meaning-at)

pub paint_flash-returns-else-is_decided_in : goal.paint_flash-returns-else-is_decided_in
paint_flash-returns-else-is_decided_in g t c = grind (arith, meaning-at)

-- ---- an object

pub paint_object-flashed-inner-requires-clause-offset : goal.paint_object-flashed-inner-requires-clause-offset
paint_object-flashed-inner-requires-clause-offset g t c = reach_offset (c.args.upto + 1) c.args.place.now c.requires.ready.reach

pub paint_object-paint_flash-requires : goal.paint_object-paint_flash-requires
paint_object-paint_flash-requires g t c κs within = grind (arith, reach_flashed)

pub paint_object-paint_stroke-requires : goal.paint_object-paint_stroke-requires
paint_object-paint_stroke-requires g t c =
    let means = meaning_before c.args.upto c.args.entries.now in
    let here = c.in-Draw in
    let ends = drawn_points means c.args.place.now here.aperture here.from here.to here.turn here.dark c.in-Some.tip
    c.in-Some.ensures.value (subst StandsOnBoard here.is c.requires.object)
    (subst (λ (o : Object). AreOnBoard (object_leaves means c.args.place.now o)) here.is c.requires.ready.board) in
    record {
      offset = reach_offset (c.args.upto + 1) c.args.place.now c.requires.ready.reach;
      from = ends.0;
      to = ends.1;
      tip = c.turned-tip.ensures.sized;
    }

pub paint_object-paint_sweep-requires : goal.paint_object-paint_sweep-requires
paint_object-paint_sweep-requires g t c =
    let means = meaning_before c.args.upto c.args.entries.now in
    let here = c.in-Arc in
    let points = swept_points means c.args.place.now here.aperture here.from here.to here.centre here.ccw here.dark
    c.in-Some-round_width.width
    (c.in-Some-round_width.ensures ∙ ap (λ o. round_width o) c.tip-in-Arc.ensures.value)
    (subst StandsOnBoard here.is c.requires.object)
    (subst (λ (o : Object). AreOnBoard (object_leaves means c.args.place.now o)) here.is c.requires.ready.board) in
    record {
      offset = reach_offset (c.args.upto + 1) c.args.place.now c.requires.ready.reach;
      from = points.0;
      to = points.1;
      centre = points.2;
      width = subst (λ o. IfSome o (λ w. IsSize w.0)) (sym c.round_width.ensures ∙ c.in-Some-round_width.is)
          (round_sized c.tip-in-Arc.result c.tip-in-Arc.ensures.size);
    }

pub paint_object-paint_region-requires-clause-offset : goal.paint_object-paint_region-requires-clause-offset
paint_object-paint_region-requires-clause-offset g t c = reach_offset (c.args.upto + 1) c.args.place.now c.requires.ready.reach

pub paint_object-paint_region-requires-clause-contour : goal.paint_object-paint_region-requires-clause-contour
paint_object-paint_region-requires-clause-contour g t c =
    let means = meaning_before c.args.upto c.args.entries.now in
    filled_placeable means c.args.place.now c.in-Region.contour c.in-Region.dark
    (reach_offset (c.args.upto + 1) c.args.place.now c.requires.ready.reach)
    (subst StandsOnBoard c.in-Region.is c.requires.object)
    (subst (λ (o : Object). AreOnBoard (object_leaves means c.args.place.now o)) c.in-Region.is c.requires.ready.board)
