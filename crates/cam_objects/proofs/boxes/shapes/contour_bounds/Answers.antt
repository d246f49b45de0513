use Rattle.std.proofs.Common.{◌≡◌, ℕ, ◌+◌, ◌<◌, pos, List, length, get_or, take, ap, sym, subst, ◌∙◌, arith}
use Rattle.std.specs.Prelude.{fold}
use Rattle.std.specs.List.{All, flat_map}
use Rattle.std.proofs.lemmas.List.{take_all}
use Rattle.std.proofs.lemmas.List.Elements.{All-head, All-tail}
use Rattle.std.proofs.lemmas.List.Sums.{fold_more}
use Rattle.cam_units.specs.Board.{IsOnBoard}
use Rattle.cam_shapes.specs.declared.segments.Seg.{Seg}
use Rattle.cam_shapes.specs.declared.segments.Seg.TheVariants.{Line}
use Rattle.cam_objects.specs.declared.boxes.shapes.Trace.{Trace}
use Rattle.cam_objects.specs.Machinery.Tracing.{followed, started}
use Rattle.cam_objects.specs.Soundness.{points_of_seg}
use Rattle.cam_objects.proofs.Tracing.{segs_on_board, stands_behind, traced_contour}
use Rattle.cam_objects.proofs.boxes.shapes.contour_bounds.Goals as goal

one_more : (z : Trace) (segs : List Seg) (i : ℕ) (d : Seg) (t r : Trace) → i < length segs → r ≡ followed t (get_or segs i d)
    → t ≡ fold followed z (take i segs) → r ≡ fold followed z (take (i + 1) segs)
one_more z segs i d t r h e f = e ∙ ap (λ (u : Trace). followed u (get_or segs i d)) f ∙ sym (fold_more followed z segs i d h)

pub point_bounds-requires : goal.point_bounds-requires
point_bounds-requires c = All-head IsOnBoard c.args.contour.now.start (flat_map points_of_seg c.args.contour.now.segs) c.requires

pub loop-seg-init : goal.loop-seg-init
loop-seg-init c = grind (arith, All-head)

pub followed-trace-requires-clause-seg : goal.followed-trace-requires-clause-seg
followed-trace-requires-clause-seg c =
    let k = c.args.contour.now in
    let all = segs_on_board k.segs (All-tail IsOnBoard k.start (flat_map points_of_seg k.segs) c.requires) in
    subst (λ (ss : List Seg). All (λ s. All IsOnBoard (points_of_seg s)) ss) (sym c.as_slice-seg-items.ensures) all c.loop-seg.seg-index _
    (omega arith)

pub loop-seg-preserved : goal.loop-seg-preserved
loop-seg-preserved c =
    let k = c.args.contour.now in
    let all = segs_on_board k.segs (All-tail IsOnBoard k.start (flat_map points_of_seg k.segs) c.requires) in
    record {
      here = subst (λ (t : Trace). IsOnBoard t.here) (sym c.followed-trace.ensures)
          (stands_behind c.loop-seg.trace _
          (subst (λ (ss : List Seg). All (λ s. All IsOnBoard (points_of_seg s)) ss)
          (sym c.as_slice-seg-items.ensures) all c.loop-seg.seg-index _ (omega arith)));
      trace = one_more (started k) c.as_slice-seg-items.result.now c.loop-seg.seg-index (Line (record { x = pos 0; y = pos 0 }))
          c.loop-seg.trace c.followed-trace.result (omega arith) c.followed-trace.ensures c.loop-seg.invariant.trace;
    }

pub returns : goal.returns
returns c = grind (arith, take_all, traced_contour)
