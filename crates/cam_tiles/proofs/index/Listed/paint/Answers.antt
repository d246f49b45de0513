use Rattle.std.proofs.Common.{◌≡◌, ◌<◌, ℕ, List, length, reverse, take, get_or, sym, subst, ◌∙◌, arith, rules, FitsSigned, w64}
use Rattle.std.specs.List.{All}
use Rattle.std.proofs.lemmas.Int.{ints}
use Rattle.std.proofs.lemmas.List.{get_or_default, take_all}
use Rattle.std.proofs.lemmas.List.Elements.{All-get_or}
use Rattle.cam_objects.specs.Leaves.{Leaf}
use Rattle.cam_tiles.specs.declared.index.Boxed.{Boxed}
use Rattle.cam_tiles.specs.declared.index.Listed.{Listed}
use Rattle.cam_tiles.specs.Machinery.Indexes.{IsBoxed, numbered_leaves}
use Rattle.cam_tiles.specs.Machinery.RowLists.{no_box}
use Rattle.cam_tiles.specs.Machinery.Shown.{leaves_by_item}
use Rattle.cam_tiles.specs.Machinery.Swaths.{PaintsSwath}
use Rattle.cam_tiles.proofs.Indexed.{at}
use Rattle.cam_tiles.proofs.PaintedLists.{beside_painted, done_painted, next_painted, none_painted}
use Rattle.cam_tiles.proofs.index.Listed.paint.Goals.{After-is_done, else-item-right, then-item-right+then-left-item}
use Rattle.cam_tiles.proofs.index.Listed.paint.Goals.{else-item-right-via-else-item-right, else-item-right-via-then-item-right+else-left-item}
use Rattle.cam_tiles.proofs.index.Listed.paint.Goals as goal

-- the leaves of the box that has a number
abbrev of_number : List (List Leaf) → List Boxed → ℕ → List Leaf
of_number lists boxed k = at lists (get_or boxed k no_box).place

pub loop-k-init : goal.loop-k-init
loop-k-init c =
    none_painted (of_number (leaves_by_item c.args.shown.now) c.args.boxed.now) c.as_slice-numbers.result.now c.args.swath.now

-- each number of the list is that of an item
listed : (index : Listed) (boxed : List Boxed) (numbers : List ℕ) (i : ℕ) → numbers ≡ index.rows.reaching.items
    → All (λ k. k < length boxed) index.rows.reaching.items → i < length numbers → get_or numbers i 0 < length boxed
listed index boxed numbers i same below within =
    All-get_or (λ k. k < length boxed) numbers i 0 within (subst (All (λ k. k < length boxed)) (sym same) below)

-- to ask whether all is decided changes nothing
so_far : (c : After-is_done) → PaintsSwath c.args.swath.now
    (numbered_leaves (leaves_by_item c.args.shown.now) c.args.boxed.now
    (reverse (take c.loop-k.k c.as_slice-numbers.result.now))) c.is_done.new.self
so_far c =
    subst (PaintsSwath c.args.swath.now
    (numbered_leaves (leaves_by_item c.args.shown.now) c.args.boxed.now
    (reverse (take c.loop-k.k c.as_slice-numbers.result.now))))
    (sym c.is_done.ensures.kept) c.loop-k.invariant

pub returns-then-is_done : goal.returns-then-is_done
returns-then-is_done c =
    let lists = leaves_by_item c.args.shown.now in
    let boxed = c.args.boxed.now in
    subst (λ (numbers : List ℕ). PaintsSwath c.args.swath.now (numbered_leaves lists boxed (reverse numbers)) c.is_done.new.self)
    c.as_slice-numbers.ensures.value
    (done_painted (of_number lists boxed) c.as_slice-numbers.result.now c.loop-k.k c.args.swath.now c.is_done.new.self
    (so_far (goal.at.returns-then-is_done c).After-is_done)
    (rw c.is_done.ensures.kept (c.is_done.ensures.done c.if-is_done.true)))

pub loop-k-preserved : goal.loop-k-preserved
loop-k-preserved c =
    let lists = leaves_by_item c.args.shown.now in
    let boxed = c.args.boxed.now in
    let numbers = c.as_slice-numbers.result.now in
    let i = c.loop-k.k in
    let within : i < length numbers = omega arith in
    let k : ℕ = get_or numbers i 0 in
    let b : Boxed = get_or boxed k no_box in
    let below = listed c.args.self.now boxed numbers i c.as_slice-numbers.ensures.value c.requires.numbers within in
    let before = so_far (goal.at.loop-k-preserved c).After-is_done in
    let painted : PaintsSwath c.is_done.new.self (at lists b.place) c.if-item-right.swath = elim c.if-item-right.branch [
      | then-item-right+then-left-item w ↦
          subst (PaintsSwath c.is_done.new.self (at lists b.place)) (sym w.swath-is) w.paint_item.ensures
      | else-item-right w ↦
          subst (PaintsSwath c.is_done.new.self (at lists b.place)) (sym w.swath-is)
          (beside_painted lists b c.args.left c.args.right c.args.swath.now c.is_done.new.self
          (numbered_leaves lists boxed (reverse (take i numbers))) before
          (All-get_or (IsBoxed lists) boxed k no_box below c.requires.boxed) c.requires.sides
          (λ met.
          let least : FitsSigned w64 c.args.left = search rules in
          let greatest : FitsSigned w64 c.args.right = search rules in
          elim w.else-item-right.branch [
            | else-item-right-via-else-item-right v ↦ omega (arith, ints, least, greatest, met.0, v.if-item-right.false)
            | else-item-right-via-then-item-right+else-left-item v ↦ omega (arith, ints, least, greatest, met.1, v.if-left-item.false)
          ]))
    ] in
    next_painted (of_number lists boxed) numbers i k c.args.swath.now c.is_done.new.self c.if-item-right.swath within
    (sym (get_or_default numbers i 0 k within)) before painted

pub returns : goal.returns
returns c =
    let lists = leaves_by_item c.args.shown.now in
    let boxed = c.args.boxed.now in
    let numbers = c.as_slice-numbers.result.now in
    subst (λ (numbers : List ℕ). PaintsSwath c.args.swath.now (numbered_leaves lists boxed (reverse numbers)) c.loop-k.swath)
    (take_all c.loop-k.k numbers (omega arith) ∙ c.as_slice-numbers.ensures.value) c.loop-k.invariant

pub paint_item-requires-clause-item : goal.paint_item-requires-clause-item
paint_item-requires-clause-item c = grind (arith)

pub paint_item-requires-clause-contours : goal.paint_item-requires-clause-contours
paint_item-requires-clause-contours c = grind (arith)
