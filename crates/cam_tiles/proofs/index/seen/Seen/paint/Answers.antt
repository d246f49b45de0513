use Rattle.std.proofs.Common.{◌≡◌, ◌+◌, ◌<◌, ◌≤◌, ℕ, Bool, true, false, cond, List, [], length, get_or, take, refl, sym, ap, subst, ◌∙◌, arith}
use Rattle.std.proofs.lemmas.Bool.Decides.{nat_tests}
use Rattle.std.proofs.lemmas.List.{get_or_default, take-take, take_all}
use Rattle.std.proofs.lemmas.List.Elements.{All-get_or}
use Rattle.cam_units.specs.declared.bounds.Bounds.{Bounds}
use Rattle.cam_objects.specs.Leaves.{Leaf}
use Rattle.cam_tiles.specs.declared.index.Boxed.{Boxed}
use Rattle.cam_tiles.specs.Machinery.Indexes.{IsBoxed, IsSeen, last_leaves, leaves_in}
use Rattle.cam_tiles.specs.Machinery.RowLists.{no_box, reaches}
use Rattle.cam_tiles.specs.Machinery.Shown.{leaves_by_item}
use Rattle.cam_tiles.specs.Machinery.Swaths.{IsInSwath, PaintsSwath, Swathed, place_in}
use Rattle.cam_tiles.proofs.Indexed.{at}
use Rattle.cam_tiles.proofs.PaintedLists.{all_decided, all_found, decided_painted, next_painted, none_painted}
use Rattle.cam_tiles.proofs.ShownItems.{leaves_are}
use Rattle.cam_tiles.proofs.index.seen.Seen.paint.Goals.{In-Some, In_ok-look, In-loop-number}
use Rattle.cam_tiles.proofs.index.seen.Seen.paint.Goals.{then-not-is_in_row-via-then-not-is_in_row}
use Rattle.cam_tiles.proofs.index.seen.Seen.paint.Goals.{then-not-is_in_row-via-else-not-is_in_row+then-is_decided_in}
use Rattle.cam_tiles.proofs.index.seen.Seen.paint.Goals as goal

-- what was found before stays
before : (c : In_ok-look) → PaintsSwath c.args.swath.now
    (last_leaves (leaves_by_item c.args.shown.now) c.args.row (take c.loop-number.number c.look.new.self.boxed.items))
    c.loop-number.swath
before c =
    let n = c.loop-number.number in
    let old = c.loop-number.self.boxed.items in
    let new = c.look.new.self.boxed.items in
    let kept : take n new ≡ take n old =
    sym (take-take n (length old) new c.loop-number.invariant.found) ∙ ap (take n) c.in_ok-look.ensures.begun.boxed in
    subst (λ (those : List Boxed). PaintsSwath c.args.swath.now (last_leaves (leaves_by_item c.args.shown.now) c.args.row those)
    c.loop-number.swath) (sym kept) c.loop-number.invariant.painted

-- each centre may be seen
seen_there : (c : In_ok-look) → (column r : ℕ) → IsInSwath c.args.swath.now column r
    → IsSeen c.args.window.now c.look.new.self.within c.args.row (place_in c.args.swath.now column r)
seen_there c =
    subst (λ (b : Bounds). (column r : ℕ) → IsInSwath c.args.swath.now column r
    → IsSeen c.args.window.now b c.args.row (place_in c.args.swath.now column r))
    (sym (c.in_ok-look.ensures.begun.within ∙ c.loop-number.invariant.within)) c.requires.there

-- the item at hand
within : (c : In-Some) → c.loop-number.number < length c.look.new.self.boxed.items
within c =
    subst (λ (those : List Boxed). c.loop-number.number < length those) c.deref.ensures.value
    (grind (arith, nat_tests, c.in-Some.ensures.lookup))

item_is : (c : In-Some) → get_or c.look.new.self.boxed.items c.loop-number.number no_box ≡ c.in-Some.item.now
item_is c =
    get_or_default c.look.new.self.boxed.items c.loop-number.number no_box _ (within c)
    ∙ sym (c.in-Some.ensures.lookup.1
    ∙ ap (λ (those : List Boxed). get_or those c.loop-number.number c.in-Some.item.now) c.deref.ensures.value)

boxed_is : (c : In-Some) → IsBoxed (leaves_by_item c.args.shown.now) c.in-Some.item.now
boxed_is c =
    subst (IsBoxed (leaves_by_item c.args.shown.now)) (item_is c)
    (All-get_or (IsBoxed (leaves_by_item c.args.shown.now)) c.look.new.self.boxed.items c.loop-number.number no_box
    (within c) c.in_ok-look.ensures.seen.each)

one_more : (c : In-Some) (t : Bool) (s : Swathed) → reaches c.args.row c.in-Some.item.now ≡ t
    → PaintsSwath c.args.swath.now
    (last_leaves (leaves_by_item c.args.shown.now) c.args.row (take c.loop-number.number c.look.new.self.boxed.items))
    c.loop-number.swath
    → PaintsSwath c.loop-number.swath (cond t (at (leaves_by_item c.args.shown.now) c.in-Some.item.now.place) []) s
    → PaintsSwath c.args.swath.now
    (last_leaves (leaves_by_item c.args.shown.now) c.args.row (take (c.loop-number.number + 1) c.look.new.self.boxed.items)) s
one_more c t s is before painted =
    let lists = leaves_by_item c.args.shown.now in
    let boxed = c.look.new.self.boxed.items in
    let now = c.loop-number.swath in
    next_painted (leaves_in lists c.args.row) boxed c.loop-number.number c.in-Some.item.now c.args.swath.now now s (within c)
    (sym (get_or_default boxed c.loop-number.number no_box _ (within c)) ∙ item_is c) before
    (subst (λ t. PaintsSwath now (cond t (at lists c.in-Some.item.now.place) []) s) (sym is) painted)

pub returns-in_default-clause-painted : goal.returns-in_default-clause-painted
returns-in_default-clause-painted c =
    let here = (goal.at.returns-in_default-clause-painted c).In_ok-look in
    let shown = c.args.shown.now in
    let lists = leaves_by_item shown in
    let seen = c.look.new.self in
    let old = c.args.swath.now in
    let now = c.loop-number.swath in
    let few : length seen.boxed.items ≤ c.loop-number.number =
    subst (λ (those : List Boxed). length those ≤ c.loop-number.number) c.deref.ensures.value
    (grind (arith, nat_tests, c.in_default.ensures.lookup)) in
    let left : seen.left ≡ 0 = omega (arith, few, c.in_ok-look.ensures.enough) in
    subst (λ (leaves : List Leaf). PaintsSwath old leaves now) (leaves_are shown)
    (all_found lists c.args.window.now seen c.in_ok-look.ensures.seen c.args.row old now (seen_there here) left
    (subst (λ (those : List Boxed). PaintsSwath old (last_leaves lists c.args.row those) now)
    (take_all c.loop-number.number seen.boxed.items few) (before here)))

pub loop-number-preserved-then-not-is_in_row : goal.loop-number-preserved-then-not-is_in_row
loop-number-preserved-then-not-is_in_row c =
    let here = goal.at.loop-number-preserved-then-not-is_in_row c in
    let item = here.In-Some in
    let now = c.loop-number.swath in
    let lists = leaves_by_item c.args.shown.now in
    let painted : PaintsSwath c.args.swath.now
    (last_leaves lists c.args.row (take (c.loop-number.number + 1) c.look.new.self.boxed.items)) now =
    elim c.then-not-is_in_row.branch [
      | then-not-is_in_row-via-then-not-is_in_row w ↦
          one_more item false now (sym c.is_in_row.ensures ∙ w.if-not-is_in_row.true) (before here.In_ok-look)
          (none_painted (leaves_in lists c.args.row) [] now)
      | then-not-is_in_row-via-else-not-is_in_row+then-is_decided_in w ↦
          one_more item true now (sym c.is_in_row.ensures ∙ w.if-not-is_in_row.false) (before here.In_ok-look)
          (decided_painted lists c.in-Some.item.now now (boxed_is item) (w.is_decided_in.ensures.0 w.if-is_decided_in.true))
    ] in
    let same : c.then-not-is_in_row.self ≡ c.look.new.self = elim c.then-not-is_in_row.branch [
      | then-not-is_in_row-via-then-not-is_in_row w ↦ w.self-is
      | then-not-is_in_row-via-else-not-is_in_row+then-is_decided_in w ↦ w.self-is
    ] in
    rw same (record {
      seen = c.in_ok-look.ensures.seen;
      within = c.in_ok-look.ensures.begun.within ∙ c.loop-number.invariant.within;
      lists = c.in_ok-look.ensures.lists;
      found = omega (arith, within item);
      painted = painted;
    })

pub loop-number-preserved : goal.loop-number-preserved
loop-number-preserved c =
    let here = goal.at.loop-number-preserved c in
    record {
      seen = c.in_ok-look.ensures.seen;
      within = c.in_ok-look.ensures.begun.within ∙ c.loop-number.invariant.within;
      lists = c.in_ok-look.ensures.lists;
      found = omega (arith, within here.In-Some);
      painted =
          one_more here.In-Some true c.is_done.new.self (sym c.is_in_row.ensures ∙ c.if-not-is_in_row.false)
          (before here.In_ok-look) (rw c.is_done.ensures.kept c.paint_item.ensures);
    }

pub returns-then-is_done-clause-painted : goal.returns-then-is_done-clause-painted
returns-then-is_done-clause-painted c =
    let here = goal.at.returns-then-is_done-clause-painted c in
    let shown = c.args.shown.now in
    let now = c.is_done.new.self in
    subst (λ (leaves : List Leaf). PaintsSwath c.args.swath.now leaves now) (leaves_are shown)
    (all_decided (leaves_by_item shown) c.args.window.now c.look.new.self c.in_ok-look.ensures.seen c.args.row
    c.args.swath.now now (seen_there here.In_ok-look) (c.loop-number.number + 1)
    (one_more here.In-Some true now (sym c.is_in_row.ensures ∙ c.if-not-is_in_row.false) (before here.In_ok-look)
    (rw c.is_done.ensures.kept c.paint_item.ensures))
    (rw c.is_done.ensures.kept (c.is_done.ensures.done c.if-is_done.true)))

pub returns-clause-painted : goal.returns-clause-painted
returns-clause-painted c =
    let shown = c.args.shown.now in
    let lists = leaves_by_item shown in
    let seen = c.loop-number.self in
    let n = c.loop-number.number in
    let few = c.loop-number.invariant.seen.few in
    let all : length lists ≤ n = omega (arith, c.loop-number-test.false, c.len-number-end.ensures.count) in
    let there = subst (λ (b : Bounds). (column r : ℕ) → IsInSwath c.args.swath.now column r
    → IsSeen c.args.window.now b c.args.row (place_in c.args.swath.now column r))
    (sym c.loop-number.invariant.within) c.requires.there in
    subst (λ (leaves : List Leaf). PaintsSwath c.args.swath.now leaves c.loop-number.swath) (leaves_are shown)
    (all_found lists c.args.window.now seen c.loop-number.invariant.seen c.args.row c.args.swath.now c.loop-number.swath there
    (omega (arith, few, all, c.loop-number.invariant.found))
    (subst (λ (those : List Boxed). PaintsSwath c.args.swath.now (last_leaves lists c.args.row those) c.loop-number.swath)
    (take_all n seen.boxed.items (omega (arith, few, all))) c.loop-number.invariant.painted))

pub loop-number-init : goal.loop-number-init
loop-number-init c = record {
  seen = c.requires.seen;
  within = refl;
  lists = c.boxes-boxes.ensures;
  found = omega arith;
  painted = none_painted (leaves_in (leaves_by_item c.args.shown.now) c.args.row) c.args.self.now.boxed.items c.args.swath.now;
}

pub look-requires-clause-seen : goal.look-requires-clause-seen
look-requires-clause-seen c = c.loop-number.invariant.seen

pub look-requires-clause-lists : goal.look-requires-clause-lists
look-requires-clause-lists c = c.loop-number.invariant.lists

pub returns-in_default-clause-seen : goal.returns-in_default-clause-seen
returns-in_default-clause-seen c = c.in_ok-look.ensures.seen

pub returns-then-is_done-clause-seen : goal.returns-then-is_done-clause-seen
returns-then-is_done-clause-seen c = c.in_ok-look.ensures.seen

pub returns-clause-seen : goal.returns-clause-seen
returns-clause-seen c = c.loop-number.invariant.seen

pub paint_item-requires-clause-within : goal.paint_item-requires-clause-within
paint_item-requires-clause-within c = (boxed_is (goal.at.paint_item-requires-clause-within c).In-Some).within
