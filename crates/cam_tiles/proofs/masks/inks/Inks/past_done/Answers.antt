use Rattle.std.proofs.Common.{◌≡◌, ◌+◌, ◌<◌, ◌≤◌, ℕ, ap, sym, subst, inl, inr, slice_index, slice_set, arith}
use Rattle.std.proofs.Common.{get_or-set_other, get_or-set_same}
use Rattle.std.proofs.Math.ListN.{length-set}
use Rattle.std.proofs.lemmas.Bool.{cases_eq}
use Rattle.std.proofs.lemmas.List.{get_or_read}
use Rattle.cam_tiles.specs.Machinery.Inks.{AreKnown, Inked, IsDoneTile}
use Rattle.cam_tiles.proofs.InkWords.{known_by, known_of}
use Rattle.cam_tiles.proofs.masks.inks.Inks.past_done.Goals.{After-known_rows-known}
use Rattle.cam_tiles.proofs.masks.inks.Inks.past_done.Goals as goal

pub known_rows-known-requires-clause-rows : goal.known_rows-known-requires-clause-rows
known_rows-known-requires-clause-rows c =
    let s = c.self.inside in
    let tile = c.args.tile in
    let inside : tile < s.tiles = omega (arith, ap (λ (k : Inked). k.tiles) c.self.view_is, c.requires) in
    let known = c.self.invariant.known tile inside in
    let same = get_or_read s.known.items _ _ (omega (arith, inside, c.self.invariant.each)) c.index-2.ensures 0 in
    λ row i low. rw c.deref.ensures.value
    (known_of s.decided.items tile (slice_index s.known.items tile) known.0 known.1 row i (omega (arith, low, same)))

inside : (c : After-known_rows-known) → c.args.tile < c.self.inside.tiles
inside c = omega (arith, ap (λ (k : Inked). k.tiles) c.self.view_is, c.requires)

-- the rows of the tile that are known to be decided now
known : (c : After-known_rows-known) → AreKnown c.self.inside.decided.items c.args.tile c.known_rows-known.result
known c =
    known_by c.self.inside.decided.items c.args.tile c.known_rows-known.result c.known_rows-known.ensures.few
    (rw c.deref.ensures.value at c.known_rows-known.ensures.rows)

-- and those of each tile
each_known : (c : After-known_rows-known) (t : ℕ) → t < c.self.inside.tiles
    → (let rows = slice_index (slice_set c.self.inside.known.items c.args.tile c.known_rows-known.result) t in
    (rows ≤ 64) × AreKnown c.self.inside.decided.items t rows)
each_known c t within =
    let s = c.self.inside in
    let tile = c.args.tile in
    let rows = c.known_rows-known.result in
    elim (cases_eq t tile) [
      | inl same ↦
          rw (same, get_or-set_same s.known.items tile rows 0 (omega (arith, inside c, c.self.invariant.each)))
          (c.known_rows-known.ensures.few, known c)
      | inr apart ↦ rw (get_or-set_other s.known.items tile t rows 0 apart) (c.self.invariant.known t within)
    ]

-- all of them, where none is left
all : (c : After-known_rows-known) → c.known_rows-known.result ≡ 64 → AreKnown c.self.inside.decided.items c.args.tile 64
all c full = subst (AreKnown c.self.inside.decided.items c.args.tile) full (known c)

pub invariant_of-self : goal.invariant_of-self
invariant_of-self c = grind (arith, length-set, known, each_known)

pub returns-then-known-lt64-clause-open : goal.returns-then-known-lt64-clause-open
returns-then-known-lt64-clause-open c = λ same done.
    let s = c.self.inside in
    let all : IsDoneTile (record { tiles = s.tiles; decided = s.decided.items; dark = s.dark.items }) c.args.tile =
    subst (λ (k : Inked). IsDoneTile k c.args.tile) (sym c.self.view_is) done in
    c.known_rows-known.ensures.open c.if-known-lt64.true
    (λ i small. rw c.deref.ensures.value (known_of s.decided.items c.args.tile 64 (omega arith) all c.known_rows-known.result i
    c.if-known-lt64.true small))

pub invariant_of-self-2 : goal.invariant_of-self-2
invariant_of-self-2 c =
    let s = c.self.inside in
    let was = c.self.invariant in
    let tile = c.args.tile in
    let here = (goal.at.invariant_of-self-2 c).After-known_rows-known in
    let done = all here (omega (arith, c.known_rows-known.ensures.few, c.if-known-lt64.false)) in
    let own = get_or-set_same s.next.items tile (tile + 1) 0 (omega (arith, inside here, was.pointed)) in
    record {
      few = was.few;
      decided = was.decided;
      dark = was.dark;
      each = rw length-set was.each;
      known = each_known here;
      pointed = rw length-set was.pointed;
      next = record {
        within = λ t within. elim (cases_eq t tile) [
          | inl same ↦ rw (same, own) (omega (arith, inside here))
          | inr apart ↦ rw (get_or-set_other s.next.items tile t (tile + 1) 0 apart) (was.next.within t within)
        ];
        known = λ t other within after until. elim (cases_eq t tile) [
          | inl same ↦
              (let last : other < tile + 1 = rw (same, own) at until in
              let this : other ≡ tile = omega (arith, last, after, same) in
              rw this done)
          | inr apart ↦
              was.next.known t other within after (rw (get_or-set_other s.next.items tile t (tile + 1) 0 apart) at until)
        ];
      };
    }

pub returns-clause-done : goal.returns-clause-done
returns-clause-done c = λ other after until row column low there. grind (arith, all)

pub index-requires-then-index-tile : goal.index-requires-then-index-tile
index-requires-then-index-tile c = grind (arith)

pub index_mut-requires : goal.index_mut-requires
index_mut-requires c = grind (arith)

pub overflow_add-tile : goal.overflow_add-tile
overflow_add-tile c = grind (arith)

pub overflow_add-result : goal.overflow_add-result
overflow_add-result c = grind (arith)

pub slice_bounds-known_rows-end : goal.slice_bounds-known_rows-end
slice_bounds-known_rows-end c = grind (arith)

pub index_mut-requires-2 : goal.index_mut-requires-2
index_mut-requires-2 c = grind (arith)

pub index-requires-2 : goal.index-requires-2
index-requires-2 c = grind (arith)
