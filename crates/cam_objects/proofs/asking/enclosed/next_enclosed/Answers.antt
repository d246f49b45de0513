use Rattle.std.proofs.Common.{◌≡◌, ◌∙◌, ◌<◌, length, map, ap, sym, subst, arith}
use Rattle.std.proofs.lemmas.Bool.{false≢true}
use Rattle.std.proofs.lemmas.List.{get_or-map, length-map}
use Rattle.cam_units.specs.declared.bounds.Bounds.{Bounds}
use Rattle.cam_units.specs.declared.bounds.Bounds.TheVariants.{Empty}
use Rattle.cam_objects.specs.Bounds.{bounds_of}
use Rattle.cam_objects.specs.Cells.{box_at}
use Rattle.cam_objects.specs.Enclosed.{IsEnclosed}
use Rattle.cam_objects.specs.Topmost.{leaves_at}
use Rattle.cam_objects.proofs.Enclosed.{others_more}
use Rattle.cam_objects.proofs.asking.enclosed.next_enclosed.Goals as goal

pub returns-then-is_enclosed : goal.returns-then-is_enclosed
returns-then-is_enclosed g c =
    let lists = g.A.AskedItems.lists in
    let all = lists c.args.items.now in
    let place = c.loop-place.place in
    let same : lists c.loop-place.items ≡ all = c.loop-place.invariant.same in
    let listed : place < length all = omega (arith, c.loop-place-test.true, c.count-place-end.ensures.value) in
    let box : box_at (map bounds_of all) place ≡ c.read.result =
    get_or-map bounds_of all place _ Empty listed ∙ ap (λ ls. bounds_of (leaves_at ls place)) (sym same) ∙ sym c.read.ensures.value in
    record {
      onward = omega arith;
      listed = omega (arith, listed, length-map {B = Bounds} all bounds_of);
      enclosed = subst (λ (b : Bounds). IsEnclosed b c.args.outer) (sym box) (c.is_enclosed.ensures.0 c.if-is_enclosed.true);
      others = c.loop-place.invariant.others;
    }

pub loop-place-preserved : goal.loop-place-preserved
loop-place-preserved g c =
    let lists = g.A.AskedItems.lists in
    let all = lists c.args.items.now in
    let place = c.loop-place.place in
    let same : lists c.loop-place.items ≡ all = c.loop-place.invariant.same in
    let listed : place < length all = omega (arith, c.loop-place-test.true, c.count-place-end.ensures.value) in
    let box : box_at (map bounds_of all) place ≡ c.read.result =
    get_or-map bounds_of all place _ Empty listed ∙ ap (λ ls. bounds_of (leaves_at ls place)) (sym same) ∙ sym c.read.ensures.value in
    record {
      same = c.read.ensures.list ∙ same;
      others = others_more (map bounds_of all) c.args.outer c.args.from place c.loop-place.invariant.others
          (λ lies. false≢true (sym c.if-is_enclosed.false ∙ c.is_enclosed.ensures.1 (subst (λ (b : Bounds). IsEnclosed b c.args.outer) box lies)));
    }

pub returns : goal.returns
returns g c = λ j onward listed.
    let all = g.A.AskedItems.lists c.args.items.now in
    c.loop-place.invariant.others j onward
    (omega (arith, listed, length-map {B = Bounds} all bounds_of, c.loop-place-test.false, c.count-place-end.ensures.value))
