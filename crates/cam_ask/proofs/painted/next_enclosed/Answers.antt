use Rattle.std.proofs.Common.{◌≡◌, ◌∙◌, ℕ, ◌<◌, List, length, get_or, map, ap, sym, subst, arith}
use Rattle.std.proofs.lemmas.Bool.{false≢true}
use Rattle.std.proofs.lemmas.List.{get_or-map, length-map}
use Rattle.cam_units.specs.declared.bounds.Bounds.{Bounds}
use Rattle.cam_objects.specs.declared.entry.Entry.{Entry}
use Rattle.cam_objects.specs.declared.item.Item.{Item}
use Rattle.cam_objects.specs.Cells.{box_at}
use Rattle.cam_objects.specs.Enclosed.{IsEnclosed}
use Rattle.cam_objects.specs.Leaves.{meaning_in}
use Rattle.cam_objects.proofs.Enclosed.{others_more}
use Rattle.cam_ask.specs.Painted.{painted_box}
use Rattle.cam_ask.proofs.painted.next_enclosed.Goals as goal

-- the box at a place is that of the item there
read : (entries es : List (ℕ × Entry)) (items all : List Item) (place : ℕ) (x : Item) → entries ≡ es → items ≡ all
    → place < length items → x ≡ get_or items place x
    → box_at (map (painted_box (meaning_in es)) all) place ≡ painted_box (meaning_in entries) x
read entries es items all place x same listed below at = grind (arith, get_or-map)

pub returns-then-is_painted_in : goal.returns-then-is_painted_in
returns-then-is_painted_in c =
    let layer = c.args.layer.now in
    let all = layer.items.items in
    let place = c.loop-place.place in
    let listed : place < length all = subst (λ (xs : List Item). place < length xs) c.items-items.ensures c.loop-place-test.true in
    let box = read c.entries.result.now layer.apertures c.items-items.result.now all place _ c.entries.ensures
    c.items-items.ensures c.loop-place-test.true c.index-items-place.is in
    record {
      onward = omega arith;
      listed = omega (arith, listed, length-map {B = Bounds} all (painted_box (meaning_in layer.apertures)));
      enclosed = subst (λ (b : Bounds). IsEnclosed b c.args.outer) (sym box) (c.is_painted_in.ensures.0 c.if-is_painted_in.true);
      others = c.loop-place.invariant.others;
    }

pub loop-place-preserved : goal.loop-place-preserved
loop-place-preserved c =
    let layer = c.args.layer.now in
    let all = layer.items.items in
    let place = c.loop-place.place in
    let box = read c.entries.result.now layer.apertures c.items-items.result.now all place _ c.entries.ensures
    c.items-items.ensures c.loop-place-test.true c.index-items-place.is in
    record {
      same = c.read-bounds.ensures.layer ∙ c.loop-place.invariant.same;
      others = others_more (map (painted_box (meaning_in layer.apertures)) all) c.args.outer c.args.from place
          c.loop-place.invariant.others
          (λ lies. false≢true (sym c.if-is_painted_in.false ∙ c.is_painted_in.ensures.1 (subst (λ (b : Bounds). IsEnclosed b c.args.outer) box lies)));
    }

pub returns : goal.returns
returns c = λ j onward listed.
    let layer = c.args.layer.now in
    c.loop-place.invariant.others j onward
    (omega (
      arith,
      listed,
      length-map {B = Bounds} layer.items.items (painted_box (meaning_in layer.apertures)),
      c.loop-place-test.false,
      ap (λ (xs : List Item). length xs) c.items-items.ensures,
    ))

pub is_painted_in-requires-clause-item : goal.is_painted_in-requires-clause-item
is_painted_in-requires-clause-item c = grind (arith)

pub read-bounds-requires : goal.read-bounds-requires
read-bounds-requires c = grind (arith)

pub loop-place-init : goal.loop-place-init
loop-place-init c = grind (arith)
