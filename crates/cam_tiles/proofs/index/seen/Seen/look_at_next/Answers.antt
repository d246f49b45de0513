use Rattle.std.proofs.Common.{◌≡◌, ◌+◌, ◌-◌, ◌≤◌, ℕ, List, [], ◌∷◌, length, take, get_or, refl, sym, ap, subst, ◌∙◌, arith}
use Rattle.std.proofs.lemmas.List.{length-map}
use Rattle.std.proofs.Math.Seq.{take-append_seam, take-length}
use Rattle.cam_units.specs.Boxes.{Holds}
use Rattle.cam_units.specs.declared.bounds.Bounds.{Bounds}
use Rattle.cam_objects.specs.Bounds.{bounds_of}
use Rattle.cam_objects.specs.Image.{IsUncovered}
use Rattle.cam_objects.specs.Leaves.{Leaf}
use Rattle.cam_tiles.specs.declared.shown.Shown.{Shown}
use Rattle.cam_tiles.specs.Machinery.Indexes.{AreSeenFrom, IsBoxOf}
use Rattle.cam_tiles.specs.Machinery.Shown.{IsReady, leaves_by_item, lists_of}
use Rattle.cam_tiles.proofs.Indexed.{next_missed, next_seen, next_uncovered, seen_back}
use Rattle.cam_tiles.proofs.index.seen.Seen.look_at_next.Goals.{After-read-bounds, After-seen}
use Rattle.cam_tiles.proofs.index.seen.Seen.look_at_next.Goals.{else-ne-via-else-ne, else-ne-via-then-ne+else-line_misses}
use Rattle.cam_tiles.proofs.index.seen.Seen.look_at_next.Goals as goal

is_box : {box : Bounds} {read lists : List (List Leaf)} (k : ℕ) → box ≡ bounds_of (get_or read k []) → read ≡ lists
    → box ≡ bounds_of (get_or lists k [])
is_box k told same = told ∙ ap (λ (these : List (List Leaf)). bounds_of (get_or these k [])) same

pub returns-then-self-eq0-clause-seen : goal.returns-then-self-eq0-clause-seen
returns-then-self-eq0-clause-seen c =
    let near = c.next_end-end in
    seen_back (leaves_by_item c.args.shown.now) c.args.window.now c.args.self.now.within c.args.self.now.boxed.items
    c.args.self.now.left near.result near.ensures.within near.ensures.apart c.requires.seen

so_far : (c : After-read-bounds) → AreSeenFrom (leaves_by_item c.args.shown.now) c.args.window.now c.args.self.now.within
    (c.next_end-end.result - 1 + 1) c.args.self.now.boxed.items
so_far c =
    let near = c.next_end-end in
    let boxed = c.args.self.now.boxed.items in
    let last : near.result ≡ near.result - 1 + 1 = omega (arith, c.if-self-eq0.false) in
    subst (λ k. AreSeenFrom (leaves_by_item c.args.shown.now) c.args.window.now c.args.self.now.within k boxed) last
    (seen_back _ _ _ boxed c.args.self.now.left near.result near.ensures.within near.ensures.apart c.requires.seen)

pub returns-in_ok-push-clause-seen : goal.returns-in_ok-push-clause-seen
returns-in_ok-push-clause-seen c =
    let w = c.args.window.now in
    let within = c.args.self.now.within in
    let n : ℕ = c.next_end-end.result - 1 in
    let box = c.in-Some.ensures.some in
    next_seen (leaves_by_item c.args.shown.now) w within n c.args.self.now.boxed.items
    (so_far (goal.at.returns-in_ok-push-clause-seen c).After-read-bounds) c.push.new.self.items c.in-Some.item c.in_ok-push.ensures.items
    c.in-Some.ensures.place
    (subst (λ box. IsBoxOf w within box c.in-Some.item) (is_box n c.read-bounds.ensures.value c.requires.lists)
    (record {
      corners = box.corners;
      rows = λ row s seen held. box.rows row s ((c.clipped-part.ensures.places s).1 (held, seen.0), seen.1) held;
      ends = box.ends;
    }))

pub returns-in_default-clause-seen : goal.returns-in_default-clause-seen
returns-in_default-clause-seen c =
    let n : ℕ = c.next_end-end.result - 1 in
    next_missed (leaves_by_item c.args.shown.now) c.args.window.now c.args.self.now.within n c.args.self.now.boxed.items
    (so_far (goal.at.returns-in_default-clause-seen c).After-read-bounds)
    (λ row s seen inside.
    let held = subst (λ box. Holds box s) (sym (is_box n c.read-bounds.ensures.value c.requires.lists)) inside in
    c.in_default.ensures.none row s ((c.clipped-part.ensures.places s).1 (held, seen.0), seen.1) held)

pub returns-then-line_misses-clause-seen : goal.returns-then-line_misses-clause-seen
returns-then-line_misses-clause-seen c =
    let n : ℕ = c.next_end-end.result - 1 in
    next_uncovered (leaves_by_item c.args.shown.now) c.args.window.now c.args.self.now.within n c.args.self.now.boxed.items
    (so_far (goal.at.returns-then-line_misses-clause-seen c).After-read-bounds)
    (λ s held.
    subst (λ (these : List (List Leaf)). IsUncovered (get_or these n []) s)
    (c.read-bounds.ensures.lists ∙ c.requires.lists) (c.line_misses.ensures.off c.if-line_misses.true s held))

few_items : (shown : Shown) → IsReady shown → length (leaves_by_item shown) ≤ 1000000
few_items shown ready = grind (arith, length-map)

pub overflow_cast-self : goal.overflow_cast-self
overflow_cast-self c =
    omega (arith, few_items c.args.shown.now c.requires.ready, c.requires.seen.few, c.next_end-end.ensures.within)

-- what reads the boxes stays that of the same lists
same_lists : (c : After-seen) → lists_of c.else-ne.boxes ≡ leaves_by_item c.args.shown.now
same_lists c =
    let read = c.read-bounds.ensures.lists ∙ c.requires.lists in
    elim c.else-ne.branch [
      | else-ne-via-then-ne+else-line_misses w ↦ ap lists_of w.boxes-is ∙ w.line_misses.ensures.lists ∙ read
      | else-ne-via-else-ne w ↦ ap lists_of w.boxes-is ∙ read
    ]

pub returns-in_ok-push-clause-lists : goal.returns-in_ok-push-clause-lists
returns-in_ok-push-clause-lists c = same_lists (goal.at.returns-in_ok-push-clause-lists c).After-seen

pub returns-in_err-push-clause-lists : goal.returns-in_err-push-clause-lists
returns-in_err-push-clause-lists c = same_lists (goal.at.returns-in_err-push-clause-lists c).After-seen

pub returns-then-line_misses-clause-lists : goal.returns-then-line_misses-clause-lists
returns-then-line_misses-clause-lists c = grind (arith)

pub returns-then-line_misses-clause-onward : goal.returns-then-line_misses-clause-onward
returns-then-line_misses-clause-onward c = omega (arith)

pub returns-in_ok-push-clause-onward : goal.returns-in_ok-push-clause-onward
returns-in_ok-push-clause-onward c = omega (arith)

pub returns-in_default-clause-lists : goal.returns-in_default-clause-lists
returns-in_default-clause-lists c = grind (arith)

pub returns-in_default-clause-onward : goal.returns-in_default-clause-onward
returns-in_default-clause-onward c = omega (arith)

pub line_misses-requires : goal.line_misses-requires
line_misses-requires c = grind (arith)

pub returns-in_ok-push-clause-begun : goal.returns-in_ok-push-clause-begun
returns-in_ok-push-clause-begun c =
    let boxed = c.args.self.now.boxed.items in
    record {
      within = refl;
      boxed = ap (take (length boxed)) c.in_ok-push.ensures.items ∙ take-append_seam boxed (c.in-Some.item ∷ []);
    }

pub returns-in_default-clause-begun : goal.returns-in_default-clause-begun
returns-in_default-clause-begun c = record { within = refl; boxed = take-length c.args.self.now.boxed.items }

pub returns-then-line_misses-clause-begun : goal.returns-then-line_misses-clause-begun
returns-then-line_misses-clause-begun c = record { within = refl; boxed = take-length c.args.self.now.boxed.items }

pub returns-then-self-eq0-clause-begun : goal.returns-then-self-eq0-clause-begun
returns-then-self-eq0-clause-begun c = record { within = refl; boxed = take-length c.args.self.now.boxed.items }
