use Rattle.std.proofs.Common.{length, map, refl, sym, ap, subst, ◌∙◌, IfSome, arith}
use Rattle.std.specs.List.{All}
use Rattle.std.proofs.Math.Seq.{map-set_same}
use Rattle.std.proofs.lemmas.List.{length_push}
use Rattle.std.proofs.lemmas.List.Elements.{All-push}
use Rattle.cam_tiles.specs.Machinery.Parts.{IsPartsOf, bare}
use Rattle.cam_tiles.specs.Machinery.RowLists.{no_box}
use Rattle.cam_tiles.specs.Machinery.Shown.{leaves_by_item}
use Rattle.cam_tiles.proofs.BareBoxes.{kept_boxed}
use Rattle.cam_tiles.proofs.index.contour_parts.contours_of.Goals.{in-Some+in_ok-push, in_default}
use Rattle.cam_tiles.proofs.index.contour_parts.contours_of.Goals as goal

pub parts_of-requires-clause-item : goal.parts_of-requires-clause-item
parts_of-requires-clause-item c =
    kept_boxed c.loop-k.boxed c.args.boxed.now c.loop-k.invariant.kept (leaves_by_item c.args.shown.now) c.requires.boxed
    c.loop-k.k no_box (omega arith)

pub returns-in_err-push-clause-kept : goal.returns-in_err-push-clause-kept
returns-in_err-push-clause-kept c = map-set_same bare c.loop-k.boxed c.loop-k.k _ no_box refl ∙ c.loop-k.invariant.kept

pub loop-k-preserved : goal.loop-k-preserved
loop-k-preserved c =
    let lists = leaves_by_item c.args.shown.now in
    let now = c.loop-k in
    let after = c.match-branch-2 in
    elim after.branch [
      | in-Some+in_ok-push w ↦
          (let more = ap (λ (v : _). v.items) w.contours-is ∙ w.in_ok-push.ensures.items in
          record {
            few = omega (arith, now.invariant.few, ap length more, length_push now.contours.items w.in-Some.parts);
            parts = subst (All (IsPartsOf lists)) (sym more)
                (All-push (IsPartsOf lists) now.contours.items w.in-Some.parts now.invariant.parts
                (subst (λ found. IfSome found (IsPartsOf lists)) w.in-Some.is c.in_ok-parts.ensures));
            kept = ap (map bare) w.boxed-is ∙ map-set_same bare now.boxed now.k _ no_box refl ∙ now.invariant.kept;
          })
      | in_default w ↦
          (let same = ap (λ (v : _). v.items) w.contours-is in
          record {
            few = omega (arith, now.invariant.few, ap length same);
            parts = subst (All (IsPartsOf lists)) (sym same) now.invariant.parts;
            kept = ap (map bare) w.boxed-is ∙ now.invariant.kept;
          })
    ]

pub bounds-boxed-k-in-Some : goal.bounds-boxed-k-in-Some
bounds-boxed-k-in-Some c = omega (arith)

pub returns-clause-parts : goal.returns-clause-parts
returns-clause-parts c = assumption arith

pub loop-k-init : goal.loop-k-init
loop-k-init c = grind (arith)
