use Rattle.std.proofs.Common.{◌/◌, ◌<◌, ℕ, IfSome, List, length, reverse, sym, ap, subst, ◌∙◌, arith, rules, FitsSigned, w64}
use Rattle.std.specs.List.{All}
use Rattle.std.proofs.lemmas.Int.{to_z-of_z}
use Rattle.cam_units.specs.Boxes.{Holds, IsInBox}
use Rattle.cam_objects.specs.Leaves.{Leaf}
use Rattle.cam_tiles.specs.declared.index.Boxed.{Boxed}
use Rattle.cam_tiles.specs.Machinery.Indexes.{AreListsOf, IsSeen, numbered_leaves}
use Rattle.cam_tiles.specs.Machinery.RowLists.{numbers_from}
use Rattle.cam_tiles.specs.Machinery.Shown.{leaves_by_item}
use Rattle.cam_tiles.specs.Machinery.Swaths.{IsInSwath, PaintsSwath, place_in}
use Rattle.cam_tiles.proofs.Indexed.{numbered, numbers_below}
use Rattle.cam_tiles.proofs.PaintedLists.{all_found, seen_there}
use Rattle.cam_tiles.proofs.ShownItems.{leaves_are}
use Rattle.cam_tiles.proofs.index.Index.paint.Goals.{After-across}
use Rattle.cam_tiles.proofs.index.Index.paint.Goals as goal

-- each centre may be seen
seen_here : (c : After-across) → (column r : ℕ) → IsInSwath c.args.swath.now column r
    → IsSeen c.args.window.now c.args.self.now.seen.within (c.args.tile / c.across.result) (place_in c.args.swath.now column r)
seen_here c =
    seen_there c.args.window.now c.args.self.now.seen.within c.bounds.result c.in-Closed.low c.in-Closed.high c.args.tile
    c.across.result c.args.swath.now c.in-Closed.is (c.has_place.ensures.0 c.if-not-has_place.false)
    (c.has_place-else-not-has_place.ensures.0 c.if-not-has_place-2.false) c.bounds.ensures c.requires.rows c.across.ensures

pub paint-requires-in-None-clause-there : goal.paint-requires-in-None-clause-there
paint-requires-in-None-clause-there c = seen_here (goal.at.paint-requires-in-None-clause-there c).After-across

pub paint-requires-in-Some-clause-numbers : goal.paint-requires-in-Some-clause-numbers
paint-requires-in-Some-clause-numbers c =
    let row : ℕ = c.args.tile / c.across.result in
    let boxed = c.args.self.now.seen.boxed.items in
    subst (λ (those : List Boxed). All (λ k. k < length those) c.go_to.new.self.reaching.items) (sym c.deref-in-Some.ensures.value)
    (subst (All (λ k. k < length boxed))
    (sym (c.in_ok-go_to-in-Some.ensures.reaching ∙ ap (numbers_from row 0) c.deref.ensures.value))
    (numbers_below row (length boxed) 0 boxed (omega arith)))

pub paint-requires-in-Some-clause-sides : goal.paint-requires-in-Some-clause-sides
paint-requires-in-Some-clause-sides c = λ column row there.
    let least : FitsSigned w64 c.in-Closed.low.x = search rules in
    let greatest : FitsSigned w64 c.in-Closed.high.x = search rules in
    let between : IsInBox c.in-Closed.low c.in-Closed.high (place_in c.args.swath.now column row) =
    subst (λ b. Holds b (place_in c.args.swath.now column row)) c.in-Closed.is (c.bounds.ensures column row there) in
    simp to_z-of_z (between.left, between.right)

pub returns-in_ok-go_to-in-Some-clause-painted : goal.returns-in_ok-go_to-in-Some-clause-painted
returns-in_ok-go_to-in-Some-clause-painted c =
    let shown = c.args.shown.now in
    let lists = leaves_by_item shown in
    let seen = c.args.self.now.seen in
    let row : ℕ = c.args.tile / c.across.result in
    let boxed = seen.boxed.items in
    let old = c.args.swath.now in
    let new = c.paint-in-Some.new.swath in
    let listed : AreListsOf lists c.args.window.now seen c.in-Some.listed =
    subst (λ l. IfSome l (AreListsOf lists c.args.window.now seen)) c.in-Some.is c.requires.index.listed in
    let leaves =
    ap (λ (those : List Boxed). numbered_leaves lists those (reverse c.go_to.new.self.reaching.items)) c.deref-in-Some.ensures.value
    ∙ ap (λ (numbers : List ℕ). numbered_leaves lists boxed (reverse numbers))
    (c.in_ok-go_to-in-Some.ensures.reaching ∙ ap (numbers_from row 0) c.deref.ensures.value)
    ∙ numbered lists row boxed in
    subst (λ (leaves : List Leaf). PaintsSwath old leaves new) (leaves_are shown)
    (all_found lists c.args.window.now seen c.requires.index.seen row old new
    (seen_here (goal.at.returns-in_ok-go_to-in-Some-clause-painted c).After-across) listed.all
    (subst (λ (leaves : List Leaf). PaintsSwath old leaves new) leaves c.paint-in-Some.ensures))

pub paint-requires-in-Some-clause-ready : goal.paint-requires-in-Some-clause-ready
paint-requires-in-Some-clause-ready c = c.requires.ready

pub paint-requires-in-None-clause-ready : goal.paint-requires-in-None-clause-ready
paint-requires-in-None-clause-ready c = c.requires.ready

pub paint-requires-in-None-clause-seen : goal.paint-requires-in-None-clause-seen
paint-requires-in-None-clause-seen c = c.requires.index.seen

pub returns-then-not-has_place-clause-index : goal.returns-then-not-has_place-clause-index
returns-then-not-has_place-clause-index c = c.requires.index

pub returns-in_default-clause-index : goal.returns-in_default-clause-index
returns-in_default-clause-index c = c.requires.index

pub nonzero_div-row : goal.nonzero_div-row
nonzero_div-row c = grind (arith)
